-- Each cut that a local has was the counts of its region at some moment.
use Rattle.std.proofs.Common.{◌≡◌, ℕ, ◌+◌, ◌*◌, ◌/◌, ◌<◌, ◌≤◌, Bool, true, false, ◌&&◌, nat_lt, List, [], ◌∷◌, ◌++◌, length, Option, Some, None, slice_get, slice_index, slice_index_or, refl, sym, ap, ◌∙◌, subst, arith, IsTrue, inl, inr}
use Rattle.std.specs.Option.{unwrap_or}
use Rattle.std.proofs.lemmas.List.{append_assoc, append-nil, get_or_past}
use Rattle.std.proofs.lemmas.List.FromFn.{fill_by_all}
use Rattle.std.proofs.lemmas.Nat.{div-mul-add}
use Rattle.std.proofs.lemmas.Bool.{and_parts, and_from, eqb-true, cases_eq, cases_lt, cond_both}
use Rattle.list_laws.proofs.Places.{get_or-replicate_default, append_cases}
use Rattle.book_base.specs.Cut.{IsWithin, AreComparable}
use Rattle.world_core.specs.declared.region.Region.{Region}
use Rattle.world_core.specs.declared.region.Region.TheVariants.{N, M}
use Rattle.world_core.specs.declared.want.Want.{Want}
use Rattle.world_core.specs.declared.want.Want.TheVariants.{Look as Wants_look, Peek as Wants_peek, Done}
use Rattle.world_core.specs.Layout.{Content, embedded_place, places}
use Rattle.world_core.specs.Shape.{Shape}
use Rattle.world_core.specs.Local.{Phase, Announcing, Asking, Viewing, Publishing, Judging, Scan, Given, Looked, Peeked, Local, fresh, own_count, embedded_in, word_of}
use Rattle.world_core.specs.Scan.{rounds, round, open_round, course, wanted}
use Rattle.world_core.specs.Event.{Event, Stage, Announce, Object, Look, Peek, Publish, Opening, Begins_none, Begins_scan, Begins_view, is_enabled, may_begin, is_loaded, local_after, opened, begun, fed, went_on, given_by, with_word, with_look, with_peek, cut_to_embed, served, purpose_of, Purpose, For_row, For_view, For_seen, For_nothing, is_staging, is_unstaged, is_row_staged, is_entry_to_embed, staged_at, is_same_region, is_look_wanted, is_peek_wanted, knows_row}
use Rattle.world_core.specs.World.{World, Step, start, local_of, count_of, row_word, after, is_possible, after_all, are_possible, IsRun, end_of}
use Rattle.world_core.specs.Agreement.{Agrees, IsKeptIn}
use Rattle.world_core.specs.Snapshot.{counts_in}
use Rattle.world_core.specs.Calls.{AreTogether, local_at}
use Rattle.world_core.proofs.Scans.{open_length, open_lacks}
use Rattle.world_laws.specs.Cuts.{CutsWereCounts, EmbeddedCutsWereCounts, WereOwnCounts, GivenCutsWereCounts, EmbeddedCutsWereOwnCounts, CutsAreComparable, GivenCutsAreComparable, ViewsAreComparable, SeenCutsAreComparable}
use Rattle.world_laws.proofs.Each.{Each, each_map, each_push, each_at, each_get}
use Rattle.world_laws.proofs.Endings.{same_region_is, look_is, peek_is, content_embedded, embedded_fits, announcing_in_N, publishing_in_M}
use Rattle.world_laws.proofs.Low.{IsLowScan, AreLow, word_low, opened_low}
use Rattle.world_laws.proofs.Knowing.{step_later, Sound, known_counted, word_is, embedded_low, embedded_long, none_asked, keeps_open, sound_after, start_sound, steps_sound}
use Rattle.world_laws.proofs.Rising.{embedded_due, staging_of}
use Rattle.world_laws.proofs.Running.{possible, own_local, other_local, goes_on, steps_grow, are_possible-append, after_all-append}
use Rattle.world_laws.proofs.Moments.{Was, was_on, Between, Scanned, FromRow, TakenWord, OfCollect, OfBorrowed, word_scanned, word_done}

abbrev pub IsWasGiven : Shape → List Step → Given → Type 0
IsWasGiven s steps given = Was s steps given.region given.cut

abbrev pub MaybeWas : Shape → List Step → Region → Option (List ℕ) → Type 0
MaybeWas s steps r None = Unit {0}
MaybeWas s steps r (Some cut) = Was s steps r cut

abbrev pub MaybeScanned : Shape → List Step → World → Option Scan → Type 0
MaybeScanned s steps w None = Unit {0}
MaybeScanned s steps w (Some scan) = Scanned s steps w scan.region scan.taken

-- Each cut that a local has was the counts of its region at some moment of the run.
pub record Momentary (s : Shape) (steps : List Step) (w : World) (l : Local) : Type 0 where
  pub cuts : Each (IsWasGiven s steps) l.cuts
  pub views : Each (Was s steps N) l.views
  pub seen : Each (Was s steps M) l.seen
  pub embedded : (r : Region) → Each (Was s steps r) (embedded_in l r)
  pub to_embed : (r : Region) → is_staging l.phase r ≡ true → MaybeWas s steps r l.to_embed
  pub scan : MaybeScanned s steps w l.scan

abbrev pub AllMomentary : Shape → List Step → World → Type 0
AllMomentary s steps w = (j : ℕ) → j < s.callers → Momentary s steps w (local_of w j)

kept_none : (s : Shape) (steps : List Step) (r : Region) (kept : Option (List ℕ)) → kept ≡ None
    → MaybeWas s steps r kept
kept_none s steps r kept none = subst (λ (o : Option (List ℕ)). MaybeWas s steps r o) (sym none) tt

module _ (s : Shape) (steps : List Step) (w : World) (some : 0 < s.callers) where
  module _ (l : Local) (h : Momentary s steps w l) (keeps : IsKeptIn l.phase l.to_embed)
      (scan : Scan) (cut : List ℕ) (was : Was s steps scan.region cut) where
    abbrev ended : Local
    ended = record l { scan = None; cuts = l.cuts ++ given_by scan cut ∷ [] }

    ended_was : Momentary s steps w ended
    ended_was =
        record {
          cuts = each_push (IsWasGiven s steps) l.cuts (given_by scan cut) h.cuts was;
          views = h.views;
          seen = h.seen;
          embedded = λ r. h.embedded r;
          to_embed = λ r staging. h.to_embed r staging;
          scan = tt;
        }

    -- the cut to embed is one of the region that the phase stages
    row_was : ((r : Region) → is_staging l.phase r ≡ true → scan.region ≡ r)
        → Momentary s steps w (served ended For_row cut)
    row_was same =
        record {
          cuts = ended_was.cuts;
          views = h.views;
          seen = h.seen;
          embedded = λ r. h.embedded r;
          to_embed = λ r staging. subst (λ (q : Region). Was s steps q cut) (same r staging) was;
          scan = tt;
        }

    view_was : scan.region ≡ N → l.to_embed ≡ None → Momentary s steps w (served ended For_view cut)
    view_was region none =
        record {
          cuts = ended_was.cuts;
          views = each_push (Was s steps N) l.views cut h.views
              (subst (λ (q : Region). Was s steps q cut) region was);
          seen = h.seen;
          embedded = λ r. h.embedded r;
          to_embed = λ r staging. kept_none s steps r l.to_embed none;
          scan = tt;
        }

    seen_was : scan.region ≡ M → l.to_embed ≡ None → Momentary s steps w (served ended For_seen cut)
    seen_was region none =
        record {
          cuts = ended_was.cuts;
          views = h.views;
          seen = each_push (Was s steps M) l.seen cut h.seen
              (subst (λ (q : Region). Was s steps q cut) region was);
          embedded = λ r. h.embedded r;
          to_embed = λ r staging. kept_none s steps r l.to_embed none;
          scan = tt;
        }

    served_was : (phase : Phase) → l.phase ≡ phase
        → Momentary s steps w (served ended (purpose_of phase l.staged scan) cut)
    served_was Announcing is =
        cond_both (is_same_region scan.region N && is_unstaged l.staged) For_row For_nothing
        (λ (p : Purpose). Momentary s steps w (served ended p cut))
        (λ e. row_was (announcing_in_N l.phase scan.region is (same_region_is scan.region N
        (and_parts (is_same_region scan.region N) (is_unstaged l.staged) e).0))) (λ _. ended_was)
    served_was Publishing is =
        cond_both (is_same_region scan.region M && is_unstaged l.staged) For_row For_nothing
        (λ (p : Purpose). Momentary s steps w (served ended p cut))
        (λ e. row_was (publishing_in_M l.phase scan.region is (same_region_is scan.region M
        (and_parts (is_same_region scan.region M) (is_unstaged l.staged) e).0))) (λ _. ended_was)
    served_was Viewing is =
        cond_both (is_same_region scan.region N && scan.is_view) For_view For_nothing
        (λ (p : Purpose). Momentary s steps w (served ended p cut))
        (λ e. view_was
        (same_region_is scan.region N (and_parts (is_same_region scan.region N) scan.is_view e).0)
        (subst (λ (f : Phase). IsKeptIn f l.to_embed) is keeps)) (λ _. ended_was)
    served_was Judging is =
        cond_both (is_same_region scan.region M) For_seen For_nothing
        (λ (p : Purpose). Momentary s steps w (served ended p cut))
        (λ e. seen_was (same_region_is scan.region M e)
        (subst (λ (f : Phase). IsKeptIn f l.to_embed) is keeps)) (λ _. ended_was)
    served_was Asking is = ended_was

  -- a local with another scan under way has cuts that were counts
  scanning_was : (l : Local) (o : Option Scan) → Momentary s steps w l → MaybeScanned s steps w o
      → Momentary s steps w (record l { scan = o })
  scanning_was l o h low =
      record {
        cuts = h.cuts;
        views = h.views;
        seen = h.seen;
        embedded = λ r. h.embedded r;
        to_embed = λ r staging. h.to_embed r staging;
        scan = low;
      }

  went_on_was : (l : Local) (scan : Scan) (want : Want) → Momentary s steps w l
      → IsKeptIn l.phase l.to_embed → Scanned s steps w scan.region scan.taken
      → ((cut : List ℕ) → want ≡ Done cut → Was s steps scan.region cut)
      → Momentary s steps w (went_on l scan want)
  went_on_was l scan (Done cut) h keeps scanned done =
      served_was l h keeps scan cut (done cut refl) l.phase refl
  went_on_was l scan (Wants_look j) h keeps scanned done = scanning_was l (Some scan) h scanned
  went_on_was l scan (Wants_peek j k e) h keeps scanned done = scanning_was l (Some scan) h scanned

  fed_was : (l : Local) (o : Option Scan) (q : Region) (is_it : Want → Bool) (x : ℕ)
      → Momentary s steps w l → IsKeptIn l.phase l.to_embed → MaybeScanned s steps w o
      → IsLowScan s w o
      → ((taken : List ℕ) → Scanned s steps w q taken → AreLow s w q taken
      → is_it (wanted s.callers taken) ≡ true
      → Scanned s steps w q (taken ++ x ∷ [])
      × ((cut : List ℕ) → wanted s.callers (taken ++ x ∷ []) ≡ Done cut → Was s steps q cut))
      → Momentary s steps w (fed s.callers l o q is_it x)
  fed_was l None q is_it x h keeps scanned low new = h
  fed_was l (Some scan) q is_it x h keeps scanned low new =
      cond_both (is_same_region scan.region q && is_it (wanted s.callers scan.taken))
      (went_on l (with_word scan x) (wanted s.callers (with_word scan x).taken)) l
      (λ (m : Local). Momentary s steps w m)
      (λ e.
      let parts =
      and_parts (is_same_region scan.region q) (is_it (wanted s.callers scan.taken)) e in
      let region : scan.region ≡ q = same_region_is scan.region q parts.0 in
      let on =
      new scan.taken (subst (λ (r : Region). Scanned s steps w r scan.taken) region scanned)
      (subst (λ (r : Region). AreLow s w r scan.taken) region low) parts.1 in
      went_on_was l (with_word scan x) (wanted s.callers (with_word scan x).taken) h keeps
      (subst (λ (r : Region). Scanned s steps w r (scan.taken ++ x ∷ [])) (sym region) on.0)
      (λ cut done. subst (λ (r : Region). Was s steps r cut) (sym region) (on.1 cut done)))
      (λ _. h)

  none_scanned : (region : Region) → Scanned s steps w region []
  none_scanned region =
      let zero_rounds : rounds s.callers [] ≡ 0 = ap (λ m. m / s.callers)
      (let e : 0 ≡ 0 * s.callers + 0 = omega arith in e) ∙ div-mul-add 0 s.callers 0 some in
      record {
        between = λ k is going. absurd (omega (arith, is, zero_rounds));
        borrowed = λ j k going e below. let none : length (open_round s.callers [])
            + rounds s.callers [] * s.callers ≡ 0 = open_length s.callers [] 0 some in
            absurd (omega (arith, below, none));
      }

  opened_was : (l : Local) (q : Region) (o : Opening)
      → ((r : ℕ) → o ≡ Begins_view r → l.to_embed ≡ None) → Momentary s steps w l
      → Momentary s steps w (opened l q o)
  opened_was l q Begins_none none h = h
  opened_was l q Begins_scan none h = scanning_was l (Some (begun l q false)) h (none_scanned q)
  opened_was l q (Begins_view reply) none h =
      record {
        cuts = h.cuts;
        views = h.views;
        seen = h.seen;
        embedded = λ r. h.embedded r;
        to_embed = λ r staging. kept_none s steps r l.to_embed (none reply refl);
        scan = none_scanned q;
      }

-- A step leads to a later moment.
module _ (s : Shape) (steps : List Step) (w : World) (step : Step) (sound : Sound s w)
    (may : IsTrue (is_possible s w step)) (some : 0 < s.callers) where
  abbrev on : List Step
  on = steps ++ step ∷ []

  abbrev v : World
  v = after s w step

  from_on : (r : Region) (j k e x : ℕ) → e < s.callers → FromRow s w r j k e x
      → FromRow s v r j k e x
  from_on r j k e x low h =
      let later = step_later s w step sound.kept may in
      let grown : count_of s w r j ≤ count_of s v r j = later.grows r j h.caller in
      record {
        caller = h.caller;
        row = omega (arith, h.row, grown);
        word = h.word ∙ sym (later.stays r j k (embedded_place s.callers r e) h.caller h.row
            (embedded_fits s.callers r e low));
      }

  between_on : (r : Region) (closed words : List ℕ) → Between s steps r closed words
      → Between s on r closed words
  between_on r closed words b =
      record {
        early = b.early;
        later = b.later ++ step ∷ [];
        parts = ap (λ (xs : List Step). xs ++ step ∷ []) b.parts
            ∙ append_assoc b.early b.later (step ∷ []);
        above = b.above;
        below = b.below;
      }

  scan_on : (o : Option Scan) → MaybeScanned s steps w o → MaybeScanned s on v o
  scan_on None h = tt
  scan_on (Some scan) h =
      record {
        between = λ k is going. between_on scan.region (round s.callers scan.taken k)
            (open_round s.callers scan.taken) (h.between k is going);
        borrowed = λ j k going e below.
            let short : length (open_round s.callers scan.taken) < s.callers =
            open_lacks s.callers scan.taken 0 some in
            from_on scan.region j k e (slice_index (open_round s.callers scan.taken) e)
            (omega (arith, below, short)) (h.borrowed j k going e below);
      }

  kept_on : (r : Region) (kept : Option (List ℕ)) → MaybeWas s steps r kept → MaybeWas s on r kept
  kept_on r None h = tt
  kept_on r (Some cut) h = was_on s steps (step ∷ []) r cut h

  momentary_on : (l : Local) → Momentary s steps w l → Momentary s on v l
  momentary_on l h =
      record {
        cuts = each_map (IsWasGiven s steps) (IsWasGiven s on) l.cuts
            (λ g a. was_on s steps (step ∷ []) g.region g.cut a) h.cuts;
        views = each_map (Was s steps N) (Was s on N) l.views
            (λ c a. was_on s steps (step ∷ []) N c a) h.views;
        seen = each_map (Was s steps M) (Was s on M) l.seen
            (λ c a. was_on s steps (step ∷ []) M c a) h.seen;
        embedded = λ r. each_map (Was s steps r) (Was s on r) (embedded_in l r)
            (λ c a. was_on s steps (step ∷ []) r c a) (h.embedded r);
        to_embed = λ r staging. kept_on r l.to_embed (h.to_embed r staging);
        scan = scan_on l.scan h.scan;
      }

-- The caller that makes the step.
module _ (s : Shape) (steps : List Step) (w : World) (sound : Sound s w) (run : IsRun s steps)
    (ends : end_of s steps ≡ w) (all : AllMomentary s steps w)
    (me : ℕ) (low : me < s.callers) where
  abbrev mine : Local
  mine = local_of w me

  agrees : Agrees s w.words me mine
  agrees = sound.kept.agree me low

  some : 0 < s.callers
  some = omega (arith, low)

  -- no count of an earlier moment is above the counts now
  rise : (r : Region) (early later : List Step) → steps ≡ early ++ later → (j : ℕ) → j < s.callers
      → count_of s (end_of s early) r j ≤ count_of s w r j
  rise r early later parts j fits =
      let on = goes_on s early later (subst (λ (xs : List Step). IsRun s xs) parts run) in
      let now : end_of s (early ++ later) ≡ w = ap (end_of s) (sym parts) ∙ ends in
      let grown : count_of s (end_of s early) r j
      ≤ count_of s (after_all s (end_of s early) later) r j =
      steps_grow s (end_of s early) later on.kept on.may r j fits in
      subst (λ (v : World). count_of s (end_of s early) r j ≤ count_of s v r j)
      (sym on.at ∙ now) grown

  -- the cut that a counted row embeds was the counts at some moment
  rows : (r : Region) (j k : ℕ) → j < s.callers → k < count_of s w r j → (cut : List ℕ)
      × Was s steps r cut
      × ((e : ℕ) → e < s.callers
      → row_word s w r j k (embedded_place s.callers r e) ≡ slice_index cut e)
  rows r j k fits below =
      let local : Local = local_of w j in
      let short : k < length (embedded_in local r) = omega (
        arith,
        below,
        (sound.kept.agree j fits).counts r,
        embedded_long s w sound.kept sound.low j fits r,
      ) in (
        slice_index_or (embedded_in local r) k [],
        each_at (Was s steps r) (embedded_in local r) k [] ((all j fits).embedded r) short,
        λ e entry.
            word_is s w sound.kept sound.low r j k (embedded_place s.callers r e) fits below
            (embedded_fits s.callers r e entry)
            ∙ ap (λ (part : Content). word_of local k part) (content_embedded s.callers r e),
      )

  take_word : (q : Region) (x : ℕ) (taken : List ℕ) → Scanned s steps w q taken → AreLow s w q taken
      → x ≤ count_of s w q (length (open_round s.callers taken)) → TakenWord s w q taken x
      → Scanned s steps w q (taken ++ x ∷ [])
      × ((cut : List ℕ) → wanted s.callers (taken ++ x ∷ []) ≡ Done cut → Was s steps q cut)
  take_word q x taken scanned words below found =
      let next = word_low s w some q taken x words below in (
        word_scanned s steps w some q taken x (rise q) ends (rows q) next scanned found,
        word_done s steps w some q taken x (rise q) ends (rows q) next scanned found,
      )

  look_was : (q : Region) (j x : ℕ) (o : Opening) → IsTrue (is_enabled s me mine (Look q j x o))
      → IsTrue (is_loaded s w.words (Look q j x o))
      → Momentary s steps w (local_after s.callers mine (Look q j x o))
  look_was q j x o may loaded =
      let begins = (and_parts (nat_lt j s.callers) (may_begin s me mine q j o) may).1 in
      let none = none_asked s w sound.kept sound.low me low q j o begins in
      let opens = opened_was s steps w some mine q o none (all me low) in
      let look : Looked = record { region = q; caller = j; count = x } in
      let found : x ≡ count_of s w q j = eqb-true x (count_of s w q j) loaded in
      fed_was s steps w some (with_look (opened mine q o) look) (opened mine q o).scan q
      (is_look_wanted j) x
      (record {
        cuts = opens.cuts;
        views = opens.views;
        seen = opens.seen;
        embedded = λ r. opens.embedded r;
        to_embed = λ r staging. opens.to_embed r staging;
        scan = opens.scan;
      })
      (keeps_open s w sound.kept sound.low me low q j o begins) opens.scan
      (opened_low s w some mine q o none (sound.low me low)).scan
      (λ taken scanned words wants.
      let at = look_is (course s.callers taken) (open_round s.callers taken) j wants in
      let here : x ≡ count_of s w q (length (open_round s.callers taken)) =
      found ∙ ap (count_of s w q) at.1 in
      take_word q x taken scanned words (omega (arith, here)) (OfCollect at.0 here))

  peek_was : (q : Region) (j k t x : ℕ) → IsTrue (is_enabled s me mine (Peek q j k t x))
      → IsTrue (is_loaded s w.words (Peek q j k t x))
      → Momentary s steps w (local_after s.callers mine (Peek q j k t x))
  peek_was q j k t x may loaded =
      let was = all me low in
      let peek : Peeked = record { region = q; caller = j; row = k; place = t; word = x } in
      let parts = and_parts (nat_lt j s.callers)
      (nat_lt t (places s.callers q) && knows_row s.callers mine q j k) may in
      let more =
      and_parts (nat_lt t (places s.callers q)) (knows_row s.callers mine q j k) parts.1 in
      let row = known_counted s w sound.kept sound.low mine (sound.low me low) q j k more.1 in
      let found : x ≡ row_word s w q j k t = eqb-true x (row_word s w q j k t) loaded in
      fed_was s steps w some (with_peek mine peek) mine.scan q (is_peek_wanted s.callers q j k t) x
      (record {
        cuts = was.cuts;
        views = was.views;
        seen = was.seen;
        embedded = λ r. was.embedded r;
        to_embed = λ r staging. was.to_embed r staging;
        scan = was.scan;
      })
      agrees.kept_in was.scan (sound.low me low).scan
      (λ taken scanned words wants.
      let at =
      peek_is s.callers q j k t (course s.callers taken) (open_round s.callers taken) wants in
      let here : x
      ≡ row_word s w q j k (embedded_place s.callers q (length (open_round s.callers taken))) =
      found ∙ ap (λ (p : ℕ). row_word s w q j k p) at.at in
      take_word q x taken scanned words
      (embedded_low s w sound.kept sound.low q j k
      (length (open_round s.callers taken)) x row.0 row.1 (open_lacks s.callers taken 0 some) here)
      (OfBorrowed j k at.borrows (record { caller = row.0; row = row.1; word = here })))

  was_there : (r : Region) (kept : Option (List ℕ)) (x : ℕ) → is_entry_to_embed kept 0 x ≡ true
      → MaybeWas s steps r kept → Was s steps r (unwrap_or kept [])
  was_there r None x e h = absurd cc
  was_there r (Some cut) x e h = h

  staged_was : (r : Region) → IsTrue (is_row_staged s.callers mine r)
      → Was s steps r (cut_to_embed mine)
  staged_was r whole =
      was_there r mine.to_embed (staged_at mine.staged (embedded_place s.callers r 0))
      (embedded_due s w sound me low r whole)
      ((all me low).to_embed r (staging_of s w sound me low r whole))

  announced_was : IsTrue (is_enabled s me mine Announce) → (r : Region)
      → Each (Was s steps r) (embedded_in (local_after s.callers mine Announce) r)
  announced_was may N = each_push (Was s steps N) mine.embedded_in_N (cut_to_embed mine)
      ((all me low).embedded N) (staged_was N may)
  announced_was may M = (all me low).embedded M

  published_was : IsTrue (is_enabled s me mine Publish) → (r : Region)
      → Each (Was s steps r) (embedded_in (local_after s.callers mine Publish) r)
  published_was may N = (all me low).embedded N
  published_was may M = each_push (Was s steps M) mine.embedded_in_M (cut_to_embed mine)
      ((all me low).embedded M) (staged_was M may)

  own_was : (e : Event) → IsTrue (is_enabled s me mine e) → IsTrue (is_loaded s w.words e)
      → Momentary s steps w (local_after s.callers mine e)
  own_was (Look q j x o) may loaded = look_was q j x o may loaded
  own_was (Peek q j k t x) may loaded = peek_was q j k t x may loaded
  own_was (Stage q t x) may loaded =
      let was = all me low in
      record {
        cuts = was.cuts;
        views = was.views;
        seen = was.seen;
        embedded = λ r. was.embedded r;
        to_embed = λ r staging. was.to_embed r staging;
        scan = was.scan;
      }
  own_was (Object o) may loaded =
      let was = all me low in
      record {
        cuts = was.cuts;
        views = was.views;
        seen = was.seen;
        embedded = λ r. was.embedded r;
        to_embed = λ r staging. was.to_embed r staging;
        scan = was.scan;
      }
  own_was Announce may loaded =
      let was = all me low in
      record {
        cuts = was.cuts;
        views = was.views;
        seen = was.seen;
        embedded = announced_was may;
        to_embed = λ r staging. tt;
        scan = tt;
      }
  own_was Publish may loaded =
      let was = all me low in
      record {
        cuts = was.cuts;
        views = was.views;
        seen = was.seen;
        embedded = published_was may;
        to_embed = λ r staging. tt;
        scan = tt;
      }

step_was : (s : Shape) (steps : List Step) (w : World) (step : Step) → Sound s w → IsRun s steps
    → end_of s steps ≡ w → IsTrue (is_possible s w step)
    → AllMomentary s steps w → AllMomentary s (steps ++ step ∷ []) (after s w step)
step_was s steps w step sound run ends may all i low =
    let p = possible s w step may in
    let some : 0 < s.callers = omega (arith, low) in
    elim (cases_eq i step.who) [
      | inl here ↦
          subst (λ (j : ℕ). Momentary s (steps ++ step ∷ []) (after s w step)
          (local_of (after s w step) j)) (sym here)
          (subst (λ (l : Local). Momentary s (steps ++ step ∷ []) (after s w step) l)
          (sym (own_local s w step sound.kept.locals_long p.caller))
          (momentary_on s steps w step sound may some
          (local_after s.callers (local_of w step.who) step.event)
          (own_was s steps w sound run ends all step.who p.caller step.event p.allowed p.loaded)))
      | inr away ↦
          subst (λ (l : Local). Momentary s (steps ++ step ∷ []) (after s w step) l)
          (sym (other_local s w step i away))
          (momentary_on s steps w step sound may some (local_of w i) (all i low))
    ]

nothing_was : (s : Shape) (steps : List Step) (r : Region)
    → Each (Was s steps r) (embedded_in fresh r)
nothing_was s steps N = tt
nothing_was s steps M = tt

start_was : (s : Shape) → AllMomentary s [] (start s)
start_was s i low =
    subst (λ (l : Local). Momentary s [] (start s) l)
    (sym (get_or-replicate_default s.callers i fresh))
    (record {
      cuts = tt;
      views = tt;
      seen = tt;
      embedded = nothing_was s [];
      to_embed = λ r staging. tt;
      scan = tt;
    })

-- the cuts of locals were counts along the rest of a run
steps_was : (s : Shape) (done rest : List Step) (w : World) → Sound s w → IsRun s done
    → end_of s done ≡ w → IsTrue (are_possible s w rest)
    → AllMomentary s done w → AllMomentary s (done ++ rest) (after_all s w rest)
steps_was s done [] w sound run ends may all =
    subst (λ (xs : List Step). AllMomentary s xs w) (sym (append-nil done)) all
steps_was s done (step ∷ rest) w sound run ends may all =
    let parts = and_parts (is_possible s w step) (are_possible s (after s w step) rest) may in
    let here : are_possible s (end_of s done) (step ∷ []) ≡ true =
    subst (λ (v : World). are_possible s v (step ∷ []) ≡ true) (sym ends)
    (and_from (is_possible s w step) true parts.0 refl) in
    let run' : IsRun s (done ++ step ∷ []) =
    are_possible-append s (start s) done (step ∷ []) ∙ and_from (are_possible s (start s) done)
    (are_possible s (end_of s done) (step ∷ [])) run here in
    let ends' : end_of s (done ++ step ∷ []) ≡ after s w step =
    after_all-append s (start s) done (step ∷ []) ∙ ap (λ (v : World). after s v step) ends in
    subst (λ (xs : List Step). AllMomentary s xs (after_all s (after s w step) rest))
    (append_assoc done (step ∷ []) rest)
    (steps_was s (done ++ step ∷ []) rest (after s w step) (sound_after s w step sound parts.0) run'
    ends' parts.1 (step_was s done w step sound run ends parts.0 all))

pub run_was : (s : Shape) (steps : List Step) → IsRun s steps
    → AllMomentary s steps (end_of s steps)
run_was s steps run = steps_was s [] steps (start s) (start_sound s) refl refl run (start_was s)

-- the counts at that moment, as a cut
pub was_counts : (s : Shape) (steps : List Step) (r : Region) (cut : List ℕ) (h : Was s steps r cut)
    → counts_in s r (end_of s h.early) ≡ cut
was_counts s steps r cut h = sym (fill_by_all (λ i. count_of s (end_of s h.early) r i) cut s.callers
    0 h.wide (λ k low. sym (h.same k low)))

-- two cuts of one run that were the counts at two moments
was_within : (s : Shape) (steps : List Step) (r : Region) (a b : List ℕ) → IsRun s steps
    → (p : Was s steps r a) (q : Was s steps r b) (between : List Step)
    → q.early ≡ p.early ++ between → IsWithin a b
was_within s steps r a b run p q between longer i = elim (cases_lt i s.callers) [
  | inl low ↦
      let all : steps ≡ p.early ++ (between ++ q.later) = q.parts
      ∙ ap (λ (xs : List Step). xs ++ q.later) longer ∙ append_assoc p.early between q.later in
      let prefix : IsRun s (p.early ++ between) =
      (let on = sym (are_possible-append s (start s) (p.early ++ between) q.later)
      ∙ (subst (λ (xs : List Step). IsRun s xs)
      (q.parts ∙ ap (λ (xs : List Step). xs ++ q.later) longer) run) in
      (and_parts (are_possible s (start s) (p.early ++ between)) _ on).0) in
      let on = goes_on s p.early between prefix in
      let grown : count_of s (end_of s p.early) r i
      ≤ count_of s (after_all s (end_of s p.early) between) r i =
      steps_grow s (end_of s p.early) between on.kept on.may r i low in
      let there : count_of s (after_all s (end_of s p.early) between) r i
      ≡ count_of s (end_of s q.early) r i =
      ap (λ (v : World). count_of s v r i) (sym on.at ∙ ap (end_of s) (sym longer)) in
      omega (arith, grown, there, p.same i low, q.same i low)
  | inr past ↦ omega (arith, get_or_past a i 0 (omega (arith, past, p.wide)))
]

pub was_comparable : (s : Shape) (steps : List Step) (r : Region) (a b : List ℕ) → IsRun s steps
    → Was s steps r a → Was s steps r b → AreComparable a b
was_comparable s steps r a b run p q =
    elim (append_cases p.early q.early p.later q.later (sym p.parts ∙ q.parts)) [
      | inl longer ↦ inl (was_within s steps r a b run p q longer.0 longer.1)
      | inr shorter ↦ inr (was_within s steps r b a run q p shorter.0 shorter.1)
    ]

-- the laws that `specs` states, from what is proved above
pub run_cut : (s : Shape) (steps : List Step) (i p : ℕ) (given : Given) → IsRun s steps
    → i < s.callers → slice_get (local_of (end_of s steps) i).cuts p ≡ Some given
    → Was s steps given.region given.cut
run_cut s steps i p given run low is = each_get (IsWasGiven s steps)
    (local_of (end_of s steps) i).cuts p given (run_was s steps run i low).cuts is

pub cuts_were_counts : CutsWereCounts
cuts_were_counts s steps i p given run low is =
    let was = run_cut s steps i p given run low is in
    (was.early, was.later, was.parts, was_counts s steps given.region given.cut was)

pub embedded_cuts_were_counts : EmbeddedCutsWereCounts
embedded_cuts_were_counts s steps i k r run low below =
    let sound = steps_sound s (start s) steps (start_sound s) run in
    let w : World = end_of s steps in
    let short : k < length (embedded_in (local_of w i) r) =
    omega (arith, below, embedded_long s w sound.kept sound.low i low r) in
    let cut : List ℕ = slice_index_or (embedded_in (local_of w i) r) k [] in
    let was : Was s steps r cut = each_at (Was s steps r)
    (embedded_in (local_of w i) r) k [] ((run_was s steps run i low).embedded r) short in
    (was.early, was.later, was.parts, was_counts s steps r cut was)

pub cuts_are_comparable : CutsAreComparable
cuts_are_comparable s steps i j p q a b run low low' is is' same =
    was_comparable s steps a.region a.cut b.cut run (run_cut s steps i p a run low is)
    (subst (λ (r : Region). Was s steps r b.cut) (sym same) (run_cut s steps j q b run low' is'))

pub given_cuts_are_comparable : GivenCutsAreComparable
given_cuts_are_comparable s locals i j p q a b (w, (steps, run, at), are) low low' =
    subst (λ (ls : List Local). slice_get (local_at ls i).cuts p ≡ Some a
    → slice_get (local_at ls j).cuts q ≡ Some b → a.region ≡ b.region → AreComparable a.cut b.cut)
    (ap (λ (v : World). v.locals) at ∙ are) (cuts_are_comparable s steps i j p q a b run low low')

-- of two cuts that locals of one reachable world list, which were the counts at moments of the run,
-- one is within the other
listed_comparable : (s : Shape) (r : Region) (lists : Local → List (List ℕ))
    → ((steps : List Step) → IsRun s steps → (i : ℕ) → i < s.callers
    → Each (Was s steps r) (lists (local_of (end_of s steps) i)))
    → (locals : List Local) (i j k m : ℕ) → AreTogether s locals → i < s.callers → j < s.callers
    → k < length (lists (local_at locals i)) → m < length (lists (local_at locals j))
    → AreComparable (slice_index_or (lists (local_at locals i)) k [])
    (slice_index_or (lists (local_at locals j)) m [])
listed_comparable s r lists were locals i j k m (w, (steps, run, at), are) low low' =
    subst (λ (ls : List Local). k < length (lists (local_at ls i))
    → m < length (lists (local_at ls j))
    → AreComparable (slice_index_or (lists (local_at ls i)) k [])
    (slice_index_or (lists (local_at ls j)) m []))
    (ap (λ (v : World). v.locals) at ∙ are) (λ below below'.
    let one : List (List ℕ) = lists (local_of (end_of s steps) i) in
    let other : List (List ℕ) = lists (local_of (end_of s steps) j) in
    was_comparable s steps r (slice_index_or one k []) (slice_index_or other m []) run
    (each_at (Was s steps r) one k [] (were steps run i low) below)
    (each_at (Was s steps r) other m [] (were steps run j low') below'))

pub views_are_comparable : ViewsAreComparable
views_are_comparable s =
    listed_comparable s N (λ l. l.views) (λ steps run i low. (run_was s steps run i low).views)

pub seen_cuts_are_comparable : SeenCutsAreComparable
seen_cuts_are_comparable s =
    listed_comparable s M (λ l. l.seen) (λ steps run i low. (run_was s steps run i low).seen)

-- the counts at that moment, as own counts
was_own : (s : Shape) (steps : List Step) (locals : List Local) (r : Region) (cut : List ℕ)
    → IsRun s steps → (end_of s steps).locals ≡ locals → Was s steps r cut
    → WereOwnCounts s locals r cut
was_own s steps locals r cut run ends was =
    let prefix : IsRun s (was.early ++ was.later) =
    subst (λ (xs : List Step). IsRun s xs) was.parts run in
    let on = goes_on s was.early was.later prefix in
    record {
      early = was.early;
      later = was.later;
      run = prefix;
      ends = ap (λ (xs : List Step). (end_of s xs).locals) (sym was.parts) ∙ ends;
      wide = was.wide;
      counts = λ j fits. sym ((on.kept.agree j fits).counts r) ∙ was.same j fits;
    }

pub given_cuts_were_counts : GivenCutsWereCounts
given_cuts_were_counts s locals i p given (w, (steps, run, at), are) low =
    let ends : (end_of s steps).locals ≡ locals = ap (λ (v : World). v.locals) at ∙ are in
    subst (λ (ls : List Local). slice_get (local_at ls i).cuts p ≡ Some given
    → WereOwnCounts s locals given.region given.cut) ends
    (λ is.
    was_own s steps locals given.region given.cut run ends (run_cut s steps i p given run low is))

pub embedded_cuts_were_own_counts : EmbeddedCutsWereOwnCounts
embedded_cuts_were_own_counts s locals i k r (w, (steps, run, at), are) low =
    let sound = steps_sound s (start s) steps (start_sound s) run in
    let v : World = end_of s steps in
    let ends : v.locals ≡ locals = ap (λ (u : World). u.locals) at ∙ are in
    subst (λ (ls : List Local). k < own_count (local_at ls i) r
    → WereOwnCounts s locals r (slice_index_or (embedded_in (local_at ls i) r) k [])) ends
    (λ below.
    let short : k < length (embedded_in (local_of v i) r) =
    omega (arith, below, embedded_long s v sound.kept sound.low i low r) in
    was_own s steps locals r (slice_index_or (embedded_in (local_of v i) r) k []) run ends
    (each_at (Was s steps r)
    (embedded_in (local_of v i) r) k [] ((run_was s steps run i low).embedded r) short))
