-- What a local holds of counts is never above the counts, and each word that it holds of a row is
-- in a counted row.
use Rattle.std.proofs.Common.{◌≡◌, ℕ, ◌+◌, ◌*◌, ◌<◌, ◌≤◌, Bool, true, false, ◌&&◌, List, [], ◌∷◌, ◌++◌, length, Option, Some, None, slice_index, refl, sym, ap, ◌∙◌, subst, arith, inl, inr, length-append}
use Rattle.std.proofs.lemmas.List.{get_or_append_left, get_or_push}
use Rattle.std.proofs.lemmas.Nat.{same_from_place}
use Rattle.std.proofs.lemmas.Bool.{and_parts, cases_lt, cond_both}
use Rattle.world_core.specs.declared.region.Region.{Region}
use Rattle.world_core.specs.declared.region.Region.TheVariants.{N, M}
use Rattle.world_core.specs.declared.want.Want.{Want}
use Rattle.world_core.specs.declared.want.Want.TheVariants.{Look as Wants_look, Peek as Wants_peek, Done}
use Rattle.world_core.specs.Layout.{places}
use Rattle.world_core.specs.Shape.{Shape}
use Rattle.world_core.specs.Local.{Phase, Announcing, Asking, Viewing, Publishing, Judging, Scan, Given, Looked, Peeked, Local, embedded_in}
use Rattle.world_core.specs.Scan.{rounds, open_round, wanted}
use Rattle.world_core.specs.Event.{Opening, Begins_none, Begins_scan, Begins_view, opened, begun, fed, went_on, given_by, with_word, served, purpose_of, Purpose, For_row, For_view, For_seen, For_nothing, is_staging, is_unstaged, is_same_region}
use Rattle.world_core.specs.World.{World, count_of, row_word}
use Rattle.world_core.specs.Agreement.{IsKeptIn}
use Rattle.world_core.proofs.Scans.{open_length, open_lacks}
use Rattle.world_laws.proofs.Each.{Each, each_map, each_push}
use Rattle.world_laws.proofs.Endings.{same_region_is, ended_round, round_word, round_length, announcing_in_N, publishing_in_M}

module _ (s : Shape) (w : World) where
  -- a cut with one count for each caller, none above the counts of its region
  pub record IsLowCut (region : Region) (cut : List ℕ) : Type 0 where
    pub wide : length cut ≡ s.callers
    pub low : (j : ℕ) → j < s.callers → slice_index cut j ≤ count_of s w region j

  pub record IsLowLook (look : Looked) : Type 0 where
    pub caller : look.caller < s.callers
    pub count : look.count ≤ count_of s w look.region look.caller

  abbrev pub IsLowGiven : Given → Type 0
  IsLowGiven given = IsLowCut given.region given.cut

  abbrev pub IsLowKept : Region → Option (List ℕ) → Type 0
  IsLowKept region None = Unit {0}
  IsLowKept region (Some cut) = IsLowCut region cut

  -- Each word that a scan has taken is at most the count that the world has for its caller.
  abbrev pub AreLow : Region → List ℕ → Type 0
  AreLow region taken = (k t : ℕ) → t < s.callers → k * s.callers + t < length taken
      → slice_index taken (k * s.callers + t) ≤ count_of s w region t

  abbrev pub IsLowScan : Option Scan → Type 0
  IsLowScan None = Unit {0}
  IsLowScan (Some scan) = AreLow scan.region scan.taken

  -- a peeked word is one of a counted row
  pub record IsCounted (p : Peeked) : Type 0 where
    pub caller : p.caller < s.callers
    pub row : p.row < count_of s w p.region p.caller
    pub place : p.place < places s.callers p.region
    pub word : p.word ≡ row_word s w p.region p.caller p.row p.place

  pub record Low (l : Local) : Type 0 where
    pub looked : Each IsLowLook l.looked
    pub cuts : Each IsLowGiven l.cuts
    pub views : Each (IsLowCut N) l.views
    pub seen : Each (IsLowCut M) l.seen
    pub embedded : (r : Region) → Each (IsLowCut r) (embedded_in l r)
    pub to_embed : (r : Region) → is_staging l.phase r ≡ true → IsLowKept r l.to_embed
    pub scan : IsLowScan l.scan
    pub peeked : Each IsCounted l.peeked

-- The second world is later than the first: no count is lower, and each counted row has the words
-- that it had.
pub record Later (s : Shape) (w v : World) : Type 0 where
  pub grows : (r : Region) (j : ℕ) → j < s.callers → count_of s w r j ≤ count_of s v r j
  pub stays : (r : Region) (j k place : ℕ) → j < s.callers → k < count_of s w r j
      → place < places s.callers r → row_word s v r j k place ≡ row_word s w r j k place

module _ (s : Shape) (w v : World) (on : Later s w v) where
  cut_on : (r : Region) (cut : List ℕ) → IsLowCut s w r cut → IsLowCut s v r cut
  cut_on r cut h = record {
    wide = h.wide;
    low = λ j below. let a = h.low j below in let b = on.grows r j below in omega (arith, a, b);
  }

  kept_on : (r : Region) (kept : Option (List ℕ)) → IsLowKept s w r kept → IsLowKept s v r kept
  kept_on r None h = tt
  kept_on r (Some cut) h = cut_on r cut h

  scan_on : (o : Option Scan) → IsLowScan s w o → IsLowScan s v o
  scan_on None h = tt
  scan_on (Some scan) h = λ k t below fits. let a = h k t below fits in
      let b = on.grows scan.region t below in omega (arith, a, b)

  counted_on : (p : Peeked) → IsCounted s w p → IsCounted s v p
  counted_on p h =
      record {
        caller = h.caller;
        row = let b = on.grows p.region p.caller h.caller in omega (arith, h.row, b);
        place = h.place;
        word = h.word ∙ sym (on.stays p.region p.caller p.row p.place h.caller h.row h.place);
      }

  pub low_on : (l : Local) → Low s w l → Low s v l
  low_on l h =
      record {
        looked = each_map (IsLowLook s w) (IsLowLook s v) l.looked
            (λ look a. record {
              caller = a.caller;
              count = let b = on.grows look.region look.caller a.caller in
                  omega (arith, a.count, b);
            }) h.looked;
        cuts = each_map (IsLowGiven s w) (IsLowGiven s v) l.cuts
            (λ given a. cut_on given.region given.cut a) h.cuts;
        views =
            each_map (IsLowCut s w N) (IsLowCut s v N) l.views (λ cut a. cut_on N cut a) h.views;
        seen = each_map (IsLowCut s w M) (IsLowCut s v M) l.seen (λ cut a. cut_on M cut a) h.seen;
        embedded = λ r. each_map (IsLowCut s w r) (IsLowCut s v r) (embedded_in l r)
            (λ cut a. cut_on r cut a) (h.embedded r);
        to_embed = λ r staging. kept_on r l.to_embed (h.to_embed r staging);
        scan = scan_on l.scan h.scan;
        peeked = each_map (IsCounted s w) (IsCounted s v) l.peeked (λ p a. counted_on p a) h.peeked;
      }

-- where a phase keeps no cut to embed, no such cut has to be low
kept_none : (s : Shape) (w : World) (r : Region) (kept : Option (List ℕ)) → kept ≡ None
    → IsLowKept s w r kept
kept_none s w r kept none = subst (λ (o : Option (List ℕ)). IsLowKept s w r o) (sym none) tt

-- The local of a caller in a world whose locals are all low.
module _ (s : Shape) (w : World) (some : 0 < s.callers) where
  -- a scan that is done ends with a low cut
  pub done_low : (region : Region) (taken cut : List ℕ) → AreLow s w region taken
      → wanted s.callers taken ≡ Done cut → IsLowCut s w region cut
  done_low region taken cut h done =
      let r = ended_round s.callers taken some cut done in
      record {
        wide = ap length r.is ∙ round_length s.callers taken r.number r.whole;
        low = λ j below.
            let word : slice_index cut j ≡ slice_index taken (r.number * s.callers + j) = ap
            (λ (c : List ℕ). slice_index c j) r.is ∙ round_word s.callers taken r.number j below in
            let low : slice_index taken (r.number * s.callers + j) ≤ count_of s w region j =
            h r.number j below (omega (arith, r.whole)) in
            omega (arith, word, low);
      }

  -- a scan with one more word has low words
  pub word_low : (region : Region) (taken : List ℕ) (x : ℕ) → AreLow s w region taken
      → x ≤ count_of s w region (length (open_round s.callers taken))
      → AreLow s w region (taken ++ x ∷ [])
  word_low region taken x h new k t below fits =
      elim (cases_lt (k * s.callers + t) (length taken)) [
        | inl old ↦
            let low : slice_index taken (k * s.callers + t) ≤ count_of s w region t =
            h k t below old in
            omega (arith, low, get_or_append_left taken (x ∷ []) 0 (k * s.callers + t) old)
        | inr past ↦
            let here : k * s.callers + t ≡ length taken =
            omega (arith, length-append taken (x ∷ []), past, fits) in
            let same = same_from_place k t (rounds s.callers taken)
            (length (open_round s.callers taken)) s.callers below
            (open_lacks s.callers taken 0 some)
            (omega (arith, here, open_length s.callers taken 0 some)) in
            let bound : x ≤ count_of s w region t =
            subst (λ (u : ℕ). x ≤ count_of s w region u) (sym same.1) new in
            omega (arith, bound, get_or_push taken x 0 (k * s.callers + t) (sym here))
      ]

  module _ (l : Local) (h : Low s w l) (keeps : IsKeptIn l.phase l.to_embed) (scan : Scan)
      (cut : List ℕ) (low : IsLowCut s w scan.region cut) where
    abbrev ended : Local
    ended = record l { scan = None; cuts = l.cuts ++ given_by scan cut ∷ [] }

    ended_low : Low s w ended
    ended_low =
        record {
          looked = h.looked;
          cuts = each_push (IsLowGiven s w) l.cuts (given_by scan cut) h.cuts low;
          views = h.views;
          seen = h.seen;
          embedded = λ r. h.embedded r;
          to_embed = λ r staging. h.to_embed r staging;
          scan = tt;
          peeked = h.peeked;
        }

    -- the cut to embed is one of the region that the phase stages
    row_low : ((r : Region) → is_staging l.phase r ≡ true → scan.region ≡ r)
        → Low s w (served ended For_row cut)
    row_low same =
        record {
          looked = h.looked;
          cuts = ended_low.cuts;
          views = h.views;
          seen = h.seen;
          embedded = λ r. h.embedded r;
          to_embed = λ r staging. subst (λ (q : Region). IsLowCut s w q cut) (same r staging) low;
          scan = tt;
          peeked = h.peeked;
        }

    view_low : scan.region ≡ N → l.to_embed ≡ None → Low s w (served ended For_view cut)
    view_low region none =
        record {
          looked = h.looked;
          cuts = ended_low.cuts;
          views = each_push (IsLowCut s w N) l.views cut h.views
              (subst (λ (q : Region). IsLowCut s w q cut) region low);
          seen = h.seen;
          embedded = λ r. h.embedded r;
          to_embed = λ r staging. kept_none s w r l.to_embed none;
          scan = tt;
          peeked = h.peeked;
        }

    seen_low : scan.region ≡ M → l.to_embed ≡ None → Low s w (served ended For_seen cut)
    seen_low region none =
        record {
          looked = h.looked;
          cuts = ended_low.cuts;
          views = h.views;
          seen = each_push (IsLowCut s w M) l.seen cut h.seen
              (subst (λ (q : Region). IsLowCut s w q cut) region low);
          embedded = λ r. h.embedded r;
          to_embed = λ r staging. kept_none s w r l.to_embed none;
          scan = tt;
          peeked = h.peeked;
        }

    served_low : (phase : Phase) → l.phase ≡ phase
        → Low s w (served ended (purpose_of phase l.staged scan) cut)
    served_low Announcing is =
        cond_both (is_same_region scan.region N && is_unstaged l.staged) For_row For_nothing
        (λ (p : Purpose). Low s w (served ended p cut))
        (λ e. row_low (announcing_in_N l.phase scan.region is (same_region_is scan.region N
        (and_parts (is_same_region scan.region N) (is_unstaged l.staged) e).0))) (λ _. ended_low)
    served_low Publishing is =
        cond_both (is_same_region scan.region M && is_unstaged l.staged) For_row For_nothing
        (λ (p : Purpose). Low s w (served ended p cut))
        (λ e. row_low (publishing_in_M l.phase scan.region is (same_region_is scan.region M
        (and_parts (is_same_region scan.region M) (is_unstaged l.staged) e).0))) (λ _. ended_low)
    served_low Viewing is =
        cond_both (is_same_region scan.region N && scan.is_view) For_view For_nothing
        (λ (p : Purpose). Low s w (served ended p cut))
        (λ e. view_low
        (same_region_is scan.region N (and_parts (is_same_region scan.region N) scan.is_view e).0)
        (subst (λ (f : Phase). IsKeptIn f l.to_embed) is keeps)) (λ _. ended_low)
    served_low Judging is =
        cond_both (is_same_region scan.region M) For_seen For_nothing
        (λ (p : Purpose). Low s w (served ended p cut))
        (λ e. seen_low (same_region_is scan.region M e)
        (subst (λ (f : Phase). IsKeptIn f l.to_embed) is keeps)) (λ _. ended_low)
    served_low Asking is = ended_low

  -- a local with another low scan under way is low
  scanning_low : (l : Local) (o : Option Scan) → Low s w l → IsLowScan s w o
      → Low s w (record l { scan = o })
  scanning_low l o h low =
      record {
        looked = h.looked;
        cuts = h.cuts;
        views = h.views;
        seen = h.seen;
        embedded = λ r. h.embedded r;
        to_embed = λ r staging. h.to_embed r staging;
        scan = low;
        peeked = h.peeked;
      }

  went_on_low : (l : Local) (scan : Scan) (want : Want) → Low s w l → IsKeptIn l.phase l.to_embed
      → AreLow s w scan.region scan.taken
      → wanted s.callers scan.taken ≡ want → Low s w (went_on l scan want)
  went_on_low l scan (Done cut) h keeps low done =
      served_low l h keeps scan cut (done_low scan.region scan.taken cut low done) l.phase refl
  went_on_low l scan (Wants_look j) h keeps low done = scanning_low l (Some scan) h low
  went_on_low l scan (Wants_peek j k e) h keeps low done = scanning_low l (Some scan) h low

  -- a loaded word, which is no more than the count that the scan under way wants
  pub fed_low : (l : Local) (o : Option Scan) (q : Region) (is_it : Want → Bool) (x : ℕ) → Low s w l
      → IsKeptIn l.phase l.to_embed → IsLowScan s w o
      → ((taken : List ℕ) → is_it (wanted s.callers taken) ≡ true
      → x ≤ count_of s w q (length (open_round s.callers taken)))
      → Low s w (fed s.callers l o q is_it x)
  fed_low l None q is_it x h keeps low new = h
  fed_low l (Some scan) q is_it x h keeps low new =
      cond_both (is_same_region scan.region q && is_it (wanted s.callers scan.taken))
      (went_on l (with_word scan x) (wanted s.callers (with_word scan x).taken)) l
      (λ (m : Local). Low s w m)
      (λ e.
      let parts =
      and_parts (is_same_region scan.region q) (is_it (wanted s.callers scan.taken)) e in
      let region : scan.region ≡ q = same_region_is scan.region q parts.0 in
      let bound : x ≤ count_of s w scan.region (length (open_round s.callers scan.taken)) =
      subst (λ (r : Region). x ≤ count_of s w r (length (open_round s.callers scan.taken)))
      (sym region) (new scan.taken parts.1) in
      went_on_low l (with_word scan x) (wanted s.callers (with_word scan x).taken) h keeps
      (word_low scan.region scan.taken x low bound) refl)
      (λ _. h)

  -- a scan that begins has no word yet
  none_taken : (region : Region) → AreLow s w region []
  none_taken region k t below fits = absurd (omega (arith, fits))

  pub opened_low : (l : Local) (q : Region) (o : Opening)
      → ((r : ℕ) → o ≡ Begins_view r → l.to_embed ≡ None) → Low s w l → Low s w (opened l q o)
  opened_low l q Begins_none none h = h
  opened_low l q Begins_scan none h = scanning_low l (Some (begun l q false)) h (none_taken q)
  opened_low l q (Begins_view reply) none h =
      record {
        looked = h.looked;
        cuts = h.cuts;
        views = h.views;
        seen = h.seen;
        embedded = λ r. h.embedded r;
        to_embed = λ r staging. kept_none s w r l.to_embed (none reply refl);
        scan = none_taken q;
        peeked = h.peeked;
      }
