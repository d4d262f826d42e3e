-- The own entries of what scans gave.
use Rattle.std.proofs.Common.{◌≡◌, ℕ, ◌+◌, ◌<◌, ◌≤◌, Bool, true, ◌&&◌, nat_lt, List, [], ◌∷◌, ◌++◌, length, Option, Some, None, slice_index, slice_index_or, refl, sym, ap, ◌∙◌, subst, arith, IsTrue, inl, inr, length-append}
use Rattle.std.specs.Option.{unwrap_or}
use Rattle.std.proofs.lemmas.List.{get_or_append_left, get_or_push}
use Rattle.std.proofs.lemmas.Bool.{and_parts, eqb-true, cases_eq, cases_lt, cond_both}
use Rattle.list_laws.proofs.Places.{get_or-replicate_default}
use Rattle.world_core.specs.declared.region.Region.{Region}
use Rattle.world_core.specs.declared.region.Region.TheVariants.{N, M}
use Rattle.world_core.specs.declared.want.Want.{Want}
use Rattle.world_core.specs.declared.want.Want.TheVariants.{Look as Wants_look, Peek as Wants_peek, Done}
use Rattle.world_core.specs.Layout.{embedded_place, places}
use Rattle.world_core.specs.Shape.{Shape}
use Rattle.world_core.specs.Local.{Phase, Announcing, Asking, Viewing, Publishing, Judging, Scan, Looked, Peeked, Object_step, Local, fresh, own_count, embedded_in}
use Rattle.world_core.specs.Scan.{open_round, course, wanted}
use Rattle.world_core.specs.Event.{Event, Stage, Announce, Object, Look, Peek, Publish, Opening, Begins_none, Begins_scan, Begins_view, is_enabled, may_begin, is_loaded, local_after, opened, fed, went_on, given_by, with_word, with_look, with_peek, cut_to_embed, served, purpose_of, Purpose, For_row, For_view, For_seen, For_nothing, is_staging, is_unstaged, is_row_staged, is_entry_to_embed, staged_at, is_same_region, is_look_wanted, is_peek_wanted, knows_row}
use Rattle.world_core.specs.World.{World, Step, start, local_of, count_of, row_word, after, is_possible, after_all, are_possible}
use Rattle.world_core.specs.Agreement.{Agrees, IsKeptIn, HasPhase, unpublished_calls, unpublished_views, unseen_records}
use Rattle.world_core.proofs.Scans.{open_lacks}
use Rattle.world_laws.proofs.Endings.{same_region_is, look_is, peek_is, announcing_in_N, publishing_in_M}
use Rattle.world_laws.proofs.Agreeing.{opened_agrees}
use Rattle.world_laws.proofs.Rising.{none_since, step_high, found_look, found_peek, embedded_due, staging_of}
use Rattle.world_laws.proofs.Since.{AllHigh, AreHigh, done_high, word_high, none_taken}
use Rattle.world_laws.proofs.Knowing.{Sound, known_counted, embedded_low, none_asked, keeps_open, sound_after}
use Rattle.world_laws.proofs.Low.{done_low, word_low, IsLowScan, AreLow, opened_low}
use Rattle.world_laws.proofs.Running.{possible, own_local, other_local}

-- Where a scan under way began: at a world in which its caller had the own count that it still has,
-- and whose counts no word of the scan is below.
pub record ScanStart (s : Shape) (w : World) (i : ℕ) (l : Local) (scan : Scan) : Type 0 where
  pub from : World
  pub all : AllHigh s from w
  pub high : AreHigh s from scan.region scan.taken
  pub own : count_of s from scan.region i ≡ own_count l scan.region

abbrev pub HasScanStart : Shape → World → ℕ → Local → Option Scan → Type 0
HasScanStart s w i l None = Unit {0}
HasScanStart s w i l (Some scan) = ScanStart s w i l scan

abbrev pub OwnsKept : ℕ → ℕ → Option (List ℕ) → Type 0
OwnsKept i count None = Unit {0}
OwnsKept i count (Some cut) = slice_index cut i ≡ count

-- The own entry of a view is its number plus 1, and so is that of a seen cut; that of an embedded
-- cut is the number of its row; and that of the cut to embed is the own count.
pub record Owns (i : ℕ) (l : Local) : Type 0 where
  pub views : (k : ℕ) → k < length l.views → slice_index (slice_index_or l.views k []) i ≡ k + 1
  pub seen : (k : ℕ) → k < length l.seen → slice_index (slice_index_or l.seen k []) i ≡ k + 1
  pub embedded : (r : Region) (k : ℕ) → k < length (embedded_in l r)
      → slice_index (slice_index_or (embedded_in l r) k []) i ≡ k
  pub to_embed : (r : Region) → is_staging l.phase r ≡ true → OwnsKept i (own_count l r) l.to_embed

-- The own entries and the mark of a caller.
pub record Owned (s : Shape) (w : World) (i : ℕ) (l : Local) (o : Option Scan) : Type 0 where
  pub owns : Owns i l
  pub mark : HasScanStart s w i l o

abbrev pub AllOwned : Shape → World → Type 0
AllOwned s w = (i : ℕ) → i < s.callers → Owned s w i (local_of w i) (local_of w i).scan

owns_none : (i count : ℕ) (kept : Option (List ℕ)) → kept ≡ None → OwnsKept i count kept
owns_none i count kept none = subst (λ (o : Option (List ℕ)). OwnsKept i count o) (sym none) tt

-- where the own entry of each cut of a list is the cut's place and some number more, and the own
-- entry of one more cut at the end fits its place, each cut of the longer list has its place and
-- that number more as its own entry
pushed_own : (i more : ℕ) (cuts : List (List ℕ)) (cut : List ℕ)
    → ((k : ℕ) → k < length cuts → slice_index (slice_index_or cuts k []) i ≡ k + more)
    → slice_index cut i ≡ length cuts + more → (k : ℕ) → k < length (cuts ++ cut ∷ [])
    → slice_index (slice_index_or (cuts ++ cut ∷ []) k []) i ≡ k + more
pushed_own i more cuts cut h new k below = elim (cases_lt k (length cuts)) [
  | inl old ↦
      ap (λ (c : List ℕ). slice_index c i) (get_or_append_left cuts (cut ∷ []) [] k old) ∙ h k old
  | inr past ↦
      let here : length cuts ≡ k = omega (arith, length-append cuts (cut ∷ []), below, past) in
      ap (λ (c : List ℕ). slice_index c i) (get_or_push cuts cut [] k here)
      ∙ omega (arith, new, here)
]

-- where a cut to embed has an entry it exists, so its own entry is the count
owns_there : (i : ℕ) (kept : Option (List ℕ)) (count x : ℕ) → is_entry_to_embed kept 0 x ≡ true
    → OwnsKept i count kept → slice_index (unwrap_or kept []) i ≡ count
owns_there i None count x e h = absurd cc
owns_there i (Some cut) count x e h = h

-- a change of the local that changes no count
same_counts : (l : Local) (look : Looked) (r : Region)
    → own_count l r ≡ own_count (with_look l look) r
same_counts l look N = refl
same_counts l look M = refl

peeked_counts : (l : Local) (peek : Peeked) (r : Region)
    → own_count l r ≡ own_count (with_peek l peek) r
peeked_counts l peek N = refl
peeked_counts l peek M = refl

staged_counts : (n : ℕ) (l : Local) (q : Region) (t x : ℕ) (r : Region)
    → own_count l r ≡ own_count (local_after n l (Stage q t x)) r
staged_counts n l q t x N = refl
staged_counts n l q t x M = refl

object_counts : (n : ℕ) (l : Local) (o : Object_step) (r : Region)
    → own_count l r ≡ own_count (local_after n l (Object o)) r
object_counts n l o N = refl
object_counts n l o M = refl

looked_phase : (l : Local) (look : Looked) → HasPhase l → HasPhase (with_look l look)
looked_phase l look h =
    record {
      announced = h.announced;
      operations = h.operations;
      replies = h.replies;
      views = h.views;
      seen = h.seen;
      embedded_in_N = h.embedded_in_N;
      embedded_in_M = h.embedded_in_M;
      object_steps = h.object_steps;
    }

peeked_phase : (l : Local) (peek : Peeked) → HasPhase l → HasPhase (with_peek l peek)
peeked_phase l peek h =
    record {
      announced = h.announced;
      operations = h.operations;
      replies = h.replies;
      views = h.views;
      seen = h.seen;
      embedded_in_N = h.embedded_in_N;
      embedded_in_M = h.embedded_in_M;
      object_steps = h.object_steps;
    }

-- The caller that makes the step.
module _ (s : Shape) (w : World) (sound : Sound s w) (me : ℕ) (low : me < s.callers) where
  abbrev mine : Local
  mine = local_of w me

  agrees : Agrees s w.words me mine
  agrees = sound.kept.agree me low

  some : 0 < s.callers
  some = omega (arith, low)

  -- A local of the caller as its scan under way takes a word.
  module _ (l : Local) (counts : (r : Region) → count_of s w r me ≡ own_count l r)
      (phase : HasPhase l) (keeps : IsKeptIn l.phase l.to_embed) (h : Owns me l) where
    -- the own entry of a scan's cut is the caller's own count in the region
    own_entry : (scan : Scan) (cut : List ℕ) → ScanStart s w me l scan
        → AreLow s w scan.region scan.taken → wanted s.callers scan.taken ≡ Done cut
        → slice_index cut me ≡ own_count l scan.region
    own_entry scan cut mark words done =
        let high : count_of s mark.from scan.region me ≤ slice_index cut me =
        (done_high s mark.from some scan.region scan.taken cut mark.high done).high me low in
        let bound : slice_index cut me ≤ count_of s w scan.region me =
        (done_low s w some scan.region scan.taken cut words done).low me low in
        omega (arith, high, bound, mark.own, counts scan.region)

    module _ (scan : Scan) (cut : List ℕ) (own : slice_index cut me ≡ own_count l scan.region) where
      abbrev ended : Local
      ended = record l { scan = None; cuts = l.cuts ++ given_by scan cut ∷ [] }

      ended_owns : Owns me ended
      ended_owns =
          record {
            views = h.views;
            seen = h.seen;
            embedded = λ r k below. h.embedded r k below;
            to_embed = λ r staging. h.to_embed r staging;
          }

      row_owns : ((r : Region) → is_staging l.phase r ≡ true → scan.region ≡ r)
          → Owns me (served ended For_row cut)
      row_owns same =
          record {
            views = h.views;
            seen = h.seen;
            embedded = λ r k below. h.embedded r k below;
            to_embed = λ r staging. own ∙ ap (own_count l) (same r staging);
          }

      view_owns : l.phase ≡ Viewing → scan.region ≡ N → Owns me (served ended For_view cut)
      view_owns is region =
          let none : l.to_embed ≡ None = subst (λ (f : Phase). IsKeptIn f l.to_embed) is keeps in
          let calls : l.announced ≡ l.published + 1 =
          phase.announced ∙ ap (λ (f : Phase). l.published + unpublished_calls f) is in
          let views : length l.views ≡ l.published + 0 =
          phase.views ∙ ap (λ (f : Phase). l.published + unpublished_views f) is in
          let entry : slice_index cut me ≡ l.announced = own ∙ ap (own_count l) region in
          record {
            views = pushed_own me 1 l.views cut h.views (omega (arith, entry, calls, views));
            seen = h.seen;
            embedded = λ r k below. h.embedded r k below;
            to_embed = λ r staging. owns_none me (own_count l r) l.to_embed none;
          }

      seen_owns : l.phase ≡ Judging → scan.region ≡ M → Owns me (served ended For_seen cut)
      seen_owns is region =
          let none : l.to_embed ≡ None = subst (λ (f : Phase). IsKeptIn f l.to_embed) is keeps in
          let seen : length l.seen + 1 ≡ l.published =
          ap (λ (f : Phase). length l.seen + unseen_records f) (sym is) ∙ phase.seen in
          let entry : slice_index cut me ≡ l.published = own ∙ ap (own_count l) region in
          record {
            views = h.views;
            seen = pushed_own me 1 l.seen cut h.seen (omega (arith, entry, seen));
            embedded = λ r k below. h.embedded r k below;
            to_embed = λ r staging. owns_none me (own_count l r) l.to_embed none;
          }

      -- a local whose scan has served its purpose has no scan
      pair : (p : Purpose) → Owns me (served ended p cut)
          → Owned s w me (served ended p cut) (served ended p cut).scan
      pair For_row o = record { owns = o; mark = tt }
      pair For_view o = record { owns = o; mark = tt }
      pair For_seen o = record { owns = o; mark = tt }
      pair For_nothing o = record { owns = o; mark = tt }

      served_owns : (f : Phase) → l.phase ≡ f
          → Owns me (served ended (purpose_of f l.staged scan) cut)
      served_owns Announcing is =
          cond_both (is_same_region scan.region N && is_unstaged l.staged) For_row For_nothing
          (λ (p : Purpose). Owns me (served ended p cut))
          (λ e. row_owns (announcing_in_N l.phase scan.region is (same_region_is scan.region N
          (and_parts (is_same_region scan.region N) (is_unstaged l.staged) e).0))) (λ _. ended_owns)
      served_owns Publishing is =
          cond_both (is_same_region scan.region M && is_unstaged l.staged) For_row For_nothing
          (λ (p : Purpose). Owns me (served ended p cut))
          (λ e. row_owns (publishing_in_M l.phase scan.region is (same_region_is scan.region M
          (and_parts (is_same_region scan.region M) (is_unstaged l.staged) e).0))) (λ _. ended_owns)
      served_owns Viewing is =
          cond_both (is_same_region scan.region N && scan.is_view) For_view For_nothing
          (λ (p : Purpose). Owns me (served ended p cut))
          (λ e. view_owns is (same_region_is scan.region N
          (and_parts (is_same_region scan.region N) scan.is_view e).0)) (λ _. ended_owns)
      served_owns Judging is =
          cond_both (is_same_region scan.region M) For_seen For_nothing
          (λ (p : Purpose). Owns me (served ended p cut))
          (λ e. seen_owns is (same_region_is scan.region M e)) (λ _. ended_owns)
      served_owns Asking is = ended_owns

    scanning_owns : (o : Option Scan) → Owns me (record l { scan = o })
    scanning_owns o = record {
      views = h.views;
      seen = h.seen;
      embedded = λ r k below. h.embedded r k below;
      to_embed = λ r staging. h.to_embed r staging;
    }

    mark_like : (scan : Scan) → ScanStart s w me l scan
        → ScanStart s w me (record l { scan = Some scan }) scan
    mark_like scan mark =
        record { from = mark.from; all = mark.all; high = mark.high; own = mark.own }

    went_on_owned : (scan : Scan) (want : Want) → ScanStart s w me l scan
        → AreLow s w scan.region scan.taken → wanted s.callers scan.taken ≡ want
        → Owned s w me (went_on l scan want) (went_on l scan want).scan
    went_on_owned scan (Done cut) mark words done =
        let own = own_entry scan cut mark words done in
        pair scan cut own (purpose_of l.phase l.staged scan) (served_owns scan cut own l.phase refl)
    went_on_owned scan (Wants_look i) mark words done =
        record { owns = scanning_owns (Some scan); mark = mark_like scan mark }
    went_on_owned scan (Wants_peek i k e) mark words done =
        record { owns = scanning_owns (Some scan); mark = mark_like scan mark }

    fed_owned : (o : Option Scan) (q : Region) (is_it : Want → Bool) (x : ℕ) → IsLowScan s w o
        → HasScanStart s w me l o → Owned s w me l l.scan
        → ((taken : List ℕ) → is_it (wanted s.callers taken) ≡ true
        → x ≤ count_of s w q (length (open_round s.callers taken)))
        → ((from : World) → AllHigh s from w → (taken : List ℕ) → AreHigh s from q taken
        → is_it (wanted s.callers taken) ≡ true
        → count_of s from q (length (open_round s.callers taken)) ≤ x)
        → Owned s w me (fed s.callers l o q is_it x) (fed s.callers l o q is_it x).scan
    fed_owned None q is_it x words mark kept is_low is_high = kept
    fed_owned (Some scan) q is_it x words mark kept is_low is_high =
        cond_both (is_same_region scan.region q && is_it (wanted s.callers scan.taken))
        (went_on l (with_word scan x) (wanted s.callers (with_word scan x).taken)) l
        (λ (m : Local). Owned s w me m m.scan)
        (λ e.
        let parts =
        and_parts (is_same_region scan.region q) (is_it (wanted s.callers scan.taken)) e in
        let region : scan.region ≡ q = same_region_is scan.region q parts.0 in
        let below : x ≤ count_of s w scan.region (length (open_round s.callers scan.taken)) =
        subst (λ (r : Region). x ≤ count_of s w r (length (open_round s.callers scan.taken)))
        (sym region) (is_low scan.taken parts.1) in
        let above : count_of s mark.from scan.region
        (length (open_round s.callers scan.taken)) ≤ x =
        subst
        (λ (r : Region). count_of s mark.from r (length (open_round s.callers scan.taken)) ≤ x)
        (sym region)
        (is_high mark.from mark.all scan.taken
        (subst (λ (r : Region). AreHigh s mark.from r scan.taken) region mark.high) parts.1) in
        went_on_owned (with_word scan x) (wanted s.callers (with_word scan x).taken)
        (record {
          from = mark.from;
          all = mark.all;
          high = word_high s mark.from some scan.region scan.taken x mark.high above;
          own = mark.own;
        })
        (word_low s w some scan.region scan.taken x words below) refl)
        (λ _. kept)

  -- the local as a look begins a scan
  opened_owned : (q : Region) (j : ℕ) (o : Opening) → may_begin s me mine q j o ≡ true
      → Owned s w me mine mine.scan → Owned s w me (opened mine q o) (opened mine q o).scan
  opened_owned q j Begins_none may h = h
  opened_owned q j Begins_scan may h =
      record {
        owns = record {
          views = h.owns.views;
          seen = h.owns.seen;
          embedded = λ r k below. h.owns.embedded r k below;
          to_embed = λ r staging. h.owns.to_embed r staging;
        };
        mark = record {
          from = w;
          all = none_since s w sound;
          high = none_taken s w some q;
          own = agrees.counts q;
        };
      }
  opened_owned q j (Begins_view reply) may h =
      let none : mine.to_embed ≡ None =
      none_asked s w sound.kept sound.low me low q j (Begins_view reply) may reply refl in
      record {
        owns =
            record {
              views = h.owns.views;
              seen = h.owns.seen;
              embedded = λ r k below. h.owns.embedded r k below;
              to_embed = λ r staging. owns_none me (own_count mine r) mine.to_embed none;
            };
        mark = record {
          from = w;
          all = none_since s w sound;
          high = none_taken s w some q;
          own = agrees.counts q;
        };
      }

  same_mark : (l m : Local) (o : Option Scan) → ((r : Region) → own_count l r ≡ own_count m r)
      → HasScanStart s w me l o → HasScanStart s w me m o
  same_mark l m None same h = tt
  same_mark l m (Some scan) same h =
      record { from = h.from; all = h.all; high = h.high; own = h.own ∙ same scan.region }

  opened_counts : (q : Region) (o : Opening) (r : Region)
      → count_of s w r me ≡ own_count (opened mine q o) r
  opened_counts q Begins_none r = agrees.counts r
  opened_counts q Begins_scan N = agrees.counts N
  opened_counts q Begins_scan M = agrees.counts M
  opened_counts q (Begins_view reply) N = agrees.counts N
  opened_counts q (Begins_view reply) M = agrees.counts M

  staged_owns : (r : Region) → IsTrue (is_row_staged s.callers mine r) → Owns me mine
      → slice_index (cut_to_embed mine) me ≡ own_count mine r
  staged_owns r whole h =
      owns_there me mine.to_embed (own_count mine r)
      (staged_at mine.staged (embedded_place s.callers r 0)) (embedded_due s w sound me low r whole)
      (h.to_embed r (staging_of s w sound me low r whole))

  announced_owns : IsTrue (is_enabled s me mine Announce) → Owns me mine → (r : Region) (k : ℕ)
      → k < length (embedded_in (local_after s.callers mine Announce) r)
      → slice_index
      (slice_index_or (embedded_in (local_after s.callers mine Announce) r) k []) me ≡ k
  announced_owns may h N k below =
      let new : slice_index (cut_to_embed mine) me ≡ mine.announced = staged_owns N may h in
      let all = pushed_own me 0 mine.embedded_in_N (cut_to_embed mine)
      (λ m low. omega (arith, h.embedded N m low))
      (omega (arith, new, agrees.phase.embedded_in_N)) k below in
      omega (arith, all)
  announced_owns may h M k below = h.embedded M k below

  published_owns : IsTrue (is_enabled s me mine Publish) → Owns me mine → (r : Region) (k : ℕ)
      → k < length (embedded_in (local_after s.callers mine Publish) r)
      → slice_index
      (slice_index_or (embedded_in (local_after s.callers mine Publish) r) k []) me ≡ k
  published_owns may h N k below = h.embedded N k below
  published_owns may h M k below =
      let new : slice_index (cut_to_embed mine) me ≡ mine.published = staged_owns M may h in
      let all = pushed_own me 0 mine.embedded_in_M (cut_to_embed mine)
      (λ m low. omega (arith, h.embedded M m low))
      (omega (arith, new, agrees.phase.embedded_in_M)) k below in
      omega (arith, all)

  opened_phase : (q : Region) (j : ℕ) (o : Opening) → may_begin s me mine q j o ≡ true
      → HasPhase (opened mine q o)
  opened_phase q j o begins = (opened_agrees s me w.words me mine q j o agrees begins).phase

  look_owned : (q : Region) (j x : ℕ) (o : Opening) → IsTrue (is_enabled s me mine (Look q j x o))
      → IsTrue (is_loaded s w.words (Look q j x o)) → Owned s w me mine mine.scan
      → Owned s w me (local_after s.callers mine (Look q j x o))
      (local_after s.callers mine (Look q j x o)).scan
  look_owned q j x o may loaded h =
      let begins = (and_parts (nat_lt j s.callers) (may_begin s me mine q j o) may).1 in
      let opens = opened_owned q j o begins h in
      let look : Looked = record { region = q; caller = j; count = x } in
      let saw : Local = with_look (opened mine q o) look in
      let owns : Owns me saw = record {
        views = opens.owns.views;
        seen = opens.owns.seen;
        embedded = λ r k below. opens.owns.embedded r k below;
        to_embed = λ r staging. opens.owns.to_embed r staging;
      } in
      let mark : HasScanStart s w me saw (opened mine q o).scan = same_mark (opened mine q o) saw
      (opened mine q o).scan (same_counts (opened mine q o) look) opens.mark in
      let found : x ≡ count_of s w q j = eqb-true x (count_of s w q j) loaded in
      fed_owned saw (λ r. opened_counts q o r ∙ same_counts (opened mine q o) look r)
      (looked_phase (opened mine q o) look (opened_phase q j o begins))
      (keeps_open s w sound.kept sound.low me low q j o begins) owns
      (opened mine q o).scan q (is_look_wanted j) x (opened_low s w some mine q o
      (none_asked s w sound.kept sound.low me low q j o begins) (sound.low me low)).scan mark
      (record { owns = owns; mark = mark })
      (λ taken wants.
      let there : j ≡ length (open_round s.callers taken) =
      (look_is (course s.callers taken) (open_round s.callers taken) j wants).1 in
      let same : count_of s w q j ≡ count_of s w q (length (open_round s.callers taken)) =
      ap (count_of s w q) there in
      omega (arith, found, same))
      (λ from all. found_look s w sound me low from all q j x o loaded)

  peek_owned : (q : Region) (j k t x : ℕ) → IsTrue (is_enabled s me mine (Peek q j k t x))
      → IsTrue (is_loaded s w.words (Peek q j k t x)) → Owned s w me mine mine.scan
      → Owned s w me (local_after s.callers mine (Peek q j k t x))
      (local_after s.callers mine (Peek q j k t x)).scan
  peek_owned q j k t x may loaded h =
      let peek : Peeked = record { region = q; caller = j; row = k; place = t; word = x } in
      let saw : Local = with_peek mine peek in
      let owns : Owns me saw = record {
        views = h.owns.views;
        seen = h.owns.seen;
        embedded = λ r m below. h.owns.embedded r m below;
        to_embed = λ r staging. h.owns.to_embed r staging;
      } in
      let mark : HasScanStart s w me saw mine.scan =
      same_mark mine saw mine.scan (peeked_counts mine peek) h.mark in
      let parts = and_parts (nat_lt j s.callers)
      (nat_lt t (places s.callers q) && knows_row s.callers mine q j k) may in
      let more =
      and_parts (nat_lt t (places s.callers q)) (knows_row s.callers mine q j k) parts.1 in
      let row = known_counted s w sound.kept sound.low mine (sound.low me low) q j k more.1 in
      let found : x ≡ row_word s w q j k t = eqb-true x (row_word s w q j k t) loaded in
      fed_owned saw (λ r. agrees.counts r ∙ peeked_counts mine peek r)
      (peeked_phase mine peek agrees.phase) agrees.kept_in owns
      mine.scan q (is_peek_wanted s.callers q j k t) x (sound.low me low).scan mark
      (record { owns = owns; mark = mark })
      (λ taken wants.
      let at =
      peek_is s.callers q j k t (course s.callers taken) (open_round s.callers taken) wants in
      embedded_low s w sound.kept sound.low q j k
      (length (open_round s.callers taken)) x row.0 row.1 (open_lacks s.callers taken 0 some)
      (found ∙ ap (λ (p : ℕ). row_word s w q j k p) at.at))
      (λ from all. found_peek s w sound me low from all q j k t x may loaded)

  own_owned : (e : Event) → IsTrue (is_enabled s me mine e) → IsTrue (is_loaded s w.words e)
      → Owned s w me mine mine.scan
      → Owned s w me (local_after s.callers mine e) (local_after s.callers mine e).scan
  own_owned (Stage q t x) may loaded h =
      record {
        owns = record {
          views = h.owns.views;
          seen = h.owns.seen;
          embedded = λ r k below. h.owns.embedded r k below;
          to_embed = λ r staging. h.owns.to_embed r staging;
        };
        mark = same_mark mine (local_after s.callers mine (Stage q t x)) mine.scan
            (staged_counts s.callers mine q t x) h.mark;
      }
  own_owned (Object o) may loaded h =
      record {
        owns = record {
          views = h.owns.views;
          seen = h.owns.seen;
          embedded = λ r k below. h.owns.embedded r k below;
          to_embed = λ r staging. h.owns.to_embed r staging;
        };
        mark = same_mark mine (local_after s.callers mine (Object o)) mine.scan
            (object_counts s.callers mine o) h.mark;
      }
  own_owned Announce may loaded h =
      record {
        owns = record {
          views = h.owns.views;
          seen = h.owns.seen;
          embedded = announced_owns may h.owns;
          to_embed = λ r staging. tt;
        };
        mark = tt;
      }
  own_owned Publish may loaded h =
      record {
        owns = record {
          views = h.owns.views;
          seen = h.owns.seen;
          embedded = published_owns may h.owns;
          to_embed = λ r staging. tt;
        };
        mark = tt;
      }
  own_owned (Look q j x o) may loaded h = look_owned q j x o may loaded h
  own_owned (Peek q j k t x) may loaded h = peek_owned q j k t x may loaded h

-- a mark of a scan stays one along steps
mark_on : (s : Shape) (w : World) (step : Step) (i : ℕ) (l : Local) (o : Option Scan) → Sound s w
    → IsTrue (is_possible s w step) → HasScanStart s w i l o → HasScanStart s (after s w step) i l o
mark_on s w step i l None sound may h = tt
mark_on s w step i l (Some scan) sound may h = record {
  from = h.from;
  all = step_high s h.from w step sound may h.all;
  high = h.high;
  own = h.own;
}

owned_on : (s : Shape) (w : World) (step : Step) (i : ℕ) (l : Local) → Sound s w
    → IsTrue (is_possible s w step) → Owned s w i l l.scan → Owned s (after s w step) i l l.scan
owned_on s w step i l sound may h =
    record { owns = h.owns; mark = mark_on s w step i l l.scan sound may h.mark }

pub step_owned : (s : Shape) (w : World) (step : Step) → Sound s w → IsTrue (is_possible s w step)
    → AllOwned s w → AllOwned s (after s w step)
step_owned s w step sound may all i low =
    let p = possible s w step may in
    elim (cases_eq i step.who) [
      | inl here ↦
          subst (λ (j : ℕ). Owned s (after s w step) j (local_of (after s w step) j)
          (local_of (after s w step) j).scan) (sym here)
          (subst (λ (l : Local). Owned s (after s w step) step.who l l.scan)
          (sym (own_local s w step sound.kept.locals_long p.caller))
          (owned_on s w step step.who
          (local_after s.callers (local_of w step.who) step.event) sound may
          (own_owned s w sound step.who p.caller step.event p.allowed p.loaded
          (all step.who p.caller))))
      | inr away ↦
          subst (λ (l : Local). Owned s (after s w step) i l l.scan)
          (sym (other_local s w step i away))
          (owned_on s w step i (local_of w i) sound may (all i low))
    ]

fresh_embedded : (i : ℕ) (r : Region) (k : ℕ) → k < length (embedded_in fresh r)
    → slice_index (slice_index_or (embedded_in fresh r) k []) i ≡ k
fresh_embedded i N k below = absurd (omega arith)
fresh_embedded i M k below = absurd (omega arith)

fresh_owned : (s : Shape) (w : World) (i : ℕ) → Owned s w i fresh None
fresh_owned s w i =
    record {
      owns =
          record {
            views = λ k below. absurd (omega arith);
            seen = λ k below. absurd (omega arith);
            embedded = fresh_embedded i;
            to_embed = λ r staging. tt;
          };
      mark = tt;
    }

pub start_owned : (s : Shape) → AllOwned s (start s)
start_owned s i low = subst (λ (l : Local). Owned s (start s) i l l.scan)
    (sym (get_or-replicate_default s.callers i fresh)) (fresh_owned s (start s) i)

pub steps_owned : (s : Shape) (w : World) (steps : List Step) → Sound s w → AllOwned s w
    → IsTrue (are_possible s w steps) → AllOwned s (after_all s w steps)
steps_owned s w [] sound all may = all
steps_owned s w (step ∷ steps) sound all may =
    let parts = and_parts (is_possible s w step) (are_possible s (after s w step) steps) may in
    steps_owned s (after s w step) steps (sound_after s w step sound parts.0)
    (step_owned s w step sound parts.0 all) parts.1
