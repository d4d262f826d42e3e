-- What scans and rows hold since some world: a scan that began after it, and a row that was staged
-- whole after it, hold at least the counts that the world had.
use Rattle.std.proofs.Common.{◌≡◌, ℕ, zero, suc, ◌+◌, ◌*◌, ◌<◌, ◌≤◌, Bool, true, false, ◌&&◌, List, [], ◌∷◌, ◌++◌, length, Option, Some, None, slice_index, slice_index_or, refl, sym, ap, ◌∙◌, subst, arith, inl, inr, length-append}
use Rattle.std.proofs.lemmas.List.{get_or_append_left, get_or_push}
use Rattle.std.proofs.lemmas.Nat.{same_from_place}
use Rattle.std.proofs.lemmas.Bool.{and_parts, cases_lt, cond_both}
use Rattle.world_core.specs.declared.region.Region.{Region}
use Rattle.world_core.specs.declared.region.Region.TheVariants.{N, M}
use Rattle.world_core.specs.declared.want.Want.{Want}
use Rattle.world_core.specs.declared.want.Want.TheVariants.{Look as Wants_look, Peek as Wants_peek, Done}
use Rattle.world_core.specs.Layout.{Content, embedded_place}
use Rattle.world_core.specs.Shape.{Shape}
use Rattle.world_core.specs.Local.{Phase, Announcing, Asking, Viewing, Publishing, Judging, Scan, Local, own_count, embedded_in, word_of}
use Rattle.world_core.specs.declared.course.Course.TheVariants.{Borrows}
use Rattle.world_core.specs.Scan.{rounds, round, open_round, last_of, course, course_after, wanted}
use Rattle.world_core.specs.Event.{Opening, Begins_none, Begins_scan, Begins_view, opened, begun, fed, went_on, given_by, with_word, served, purpose_of, Purpose, For_row, For_view, For_seen, For_nothing, is_staging, is_unstaged, is_same_region, is_look_wanted, is_peek_wanted}
use Rattle.world_core.specs.World.{World, local_of, count_of, row_word}
use Rattle.world_core.specs.Agreement.{IsKeptIn}
use Rattle.world_core.proofs.Scans.{open_length, open_lacks}
use Rattle.world_laws.proofs.Endings.{same_region_is, ended_round, round_word, look_is, peek_is, content_embedded, embedded_fits, announcing_in_N, publishing_in_M}
use Rattle.world_laws.proofs.Knowing.{Sound, word_is}
use Rattle.world_laws.proofs.Lending.{round_lends}

-- Where a scan borrows row k of caller j, at least one collect is whole, and k is above the count
-- of j in the first collect.
after_moved : (n : ℕ) (taken : List ℕ) (m j k : ℕ) → m * n ≤ length taken
    → course_after n taken m ≡ Borrows j k
    → (slice_index (round n taken 0) j < k) × (n ≤ length taken)
after_moved n taken zero j k fits h = absurd cc
after_moved n taken (suc m) j k fits h =
    let l = round_lends (round n taken 0) (last_of n taken m) (round n taken m)
    (course_after n taken m) j k h in (l.lent.moved, omega (arith, fits))

-- What a caller has looked at, found and embedded since some world has no count below those of that
-- world.
module _ (s : Shape) (from : World) where
  -- a cut with no count below those of that world
  pub record IsHighCut (region : Region) (cut : List ℕ) : Type 0 where
    pub high : (j : ℕ) → j < s.callers → count_of s from region j ≤ slice_index cut j

  abbrev pub IsHighKept : Region → Option (List ℕ) → Type 0
  IsHighKept region None = Unit {0}
  IsHighKept region (Some cut) = IsHighCut region cut

  abbrev pub AreHigh : Region → List ℕ → Type 0
  AreHigh region taken = (k t : ℕ) → t < s.callers → k * s.callers + t < length taken
      → count_of s from region t ≤ slice_index taken (k * s.callers + t)

  -- the scan under way of a caller that has counted a row of its region since
  abbrev pub IsHighScan : ℕ → Local → Option Scan → Type 0
  IsHighScan j l None = Unit {0}
  IsHighScan j l (Some scan) = count_of s from scan.region j < own_count l scan.region
      → AreHigh scan.region scan.taken

  -- Each row that a caller counted since, but the first, embeds a cut that is high; and once it
  -- counted one, the cut that it may embed next and the words of its scan under way are high too.
  pub record High (j : ℕ) (l : Local) : Type 0 where
    pub grows : (r : Region) → count_of s from r j ≤ own_count l r
    pub rows : (r : Region) (k : ℕ) → count_of s from r j < k → k < own_count l r
        → IsHighCut r (slice_index_or (embedded_in l r) k [])
    pub to_embed : (r : Region) → is_staging l.phase r ≡ true → count_of s from r j < own_count l r
        → IsHighKept r l.to_embed
    pub scan : IsHighScan j l l.scan

  abbrev pub AllHigh : World → Type 0
  AllHigh w = (j : ℕ) → j < s.callers → High j (local_of w j)

  kept_high : (r : Region) (kept : Option (List ℕ)) → kept ≡ None → IsHighKept r kept
  kept_high r kept none = subst (λ (o : Option (List ℕ)). IsHighKept r o) (sym none) tt

  module _ (some : 0 < s.callers) where
    -- a scan that is done ends with a high cut
    pub done_high : (region : Region) (taken cut : List ℕ) → AreHigh region taken
        → wanted s.callers taken ≡ Done cut → IsHighCut region cut
    done_high region taken cut h done =
        let r = ended_round s.callers taken some cut done in
        record {
          high = λ j below.
              let word : slice_index cut j ≡ slice_index taken (r.number * s.callers + j) =
              ap (λ (c : List ℕ). slice_index c j) r.is
              ∙ round_word s.callers taken r.number j below in
              let high : count_of s from region j ≤ slice_index taken (r.number * s.callers + j) =
              h r.number j below (omega (arith, r.whole)) in
              omega (arith, word, high);
        }

    pub word_high : (region : Region) (taken : List ℕ) (x : ℕ) → AreHigh region taken
        → count_of s from region (length (open_round s.callers taken)) ≤ x
        → AreHigh region (taken ++ x ∷ [])
    word_high region taken x h new k t below fits =
        elim (cases_lt (k * s.callers + t) (length taken)) [
          | inl old ↦
              let high : count_of s from region t ≤ slice_index taken (k * s.callers + t) =
              h k t below old in
              omega (arith, high, get_or_append_left taken (x ∷ []) 0 (k * s.callers + t) old)
          | inr past ↦
              let here : k * s.callers + t ≡ length taken =
              omega (arith, length-append taken (x ∷ []), past, fits) in
              let same = same_from_place k t (rounds s.callers taken)
              (length (open_round s.callers taken)) s.callers below
              (open_lacks s.callers taken 0 some)
              (omega (arith, here, open_length s.callers taken 0 some)) in
              let bound : count_of s from region t ≤ x =
              subst (λ (u : ℕ). count_of s from region u ≤ x) (sym same.1) new in
              omega (arith, bound, get_or_push taken x 0 (k * s.callers + t) (sym here))
        ]

    -- a row that a scan with high words borrows was counted since, and isn't the first
    pub borrowed_row : (region : Region) (taken : List ℕ) (j k : ℕ) → AreHigh region taken
        → course s.callers taken ≡ Borrows j k → j < s.callers → count_of s from region j < k
    borrowed_row region taken j k h borrows caller =
        let moved = after_moved s.callers taken (rounds s.callers taken) j k
        (omega (arith, open_length s.callers taken 0 some)) borrows in
        let high : count_of s from region j ≤ slice_index taken (0 * s.callers + j) =
        h 0 j caller (omega (arith, moved.1, caller)) in
        omega (arith, high, moved.0, round_word s.callers taken 0 j caller)

    -- A word that the scan under way takes, in a world whose locals are all high.
    module _ (w : World) (sound : Sound s w) (all : AllHigh w) where
      counted : (r : Region) (t : ℕ) → t < s.callers → count_of s w r t ≡ own_count (local_of w t) r
      counted r t low = (sound.kept.agree t low).counts r

      pub look_high : (q : Region) (j x : ℕ) (taken : List ℕ) → x ≡ count_of s w q j
          → is_look_wanted j (wanted s.callers taken) ≡ true
          → count_of s from q (length (open_round s.callers taken)) ≤ x
      look_high q j x taken found wants =
          let there : j ≡ length (open_round s.callers taken) =
          (look_is (course s.callers taken) (open_round s.callers taken) j wants).1 in
          let low : length (open_round s.callers taken) < s.callers =
          open_lacks s.callers taken 0 some in
          let grown : count_of s from q (length (open_round s.callers taken))
          ≤ own_count (local_of w (length (open_round s.callers taken))) q =
          (all (length (open_round s.callers taken)) low).grows q in
          let same : count_of s w q j ≡ count_of s w q (length (open_round s.callers taken)) =
          ap (count_of s w q) there in
          omega (arith, found, same, counted q (length (open_round s.callers taken)) low, grown)

      pub peek_high : (q : Region) (j k t x : ℕ) (taken : List ℕ) → j < s.callers
          → k < count_of s w q j → x ≡ row_word s w q j k t
          → AreHigh q taken → is_peek_wanted s.callers q j k t (wanted s.callers taken) ≡ true
          → count_of s from q (length (open_round s.callers taken)) ≤ x
      peek_high q j k t x taken caller row found h wants =
          let at =
          peek_is s.callers q j k t (course s.callers taken) (open_round s.callers taken) wants in
          let e = length (open_round s.callers taken) in
          let low : e < s.callers = open_lacks s.callers taken 0 some in
          let since : count_of s from q j < k = borrowed_row q taken j k h at.borrows caller in
          let below : k < own_count (local_of w j) q = omega (arith, row, counted q j caller) in
          let cut : IsHighCut q (slice_index_or (embedded_in (local_of w j) q) k []) =
          (all j caller).rows q k since below in
          let high : count_of s from q e
          ≤ slice_index (slice_index_or (embedded_in (local_of w j) q) k []) e = cut.high e low in
          let word : x ≡ slice_index (slice_index_or (embedded_in (local_of w j) q) k []) e =
          found ∙ ap (λ (p : ℕ). row_word s w q j k p) at.at
          ∙ word_is s w sound.kept sound.low q j k (embedded_place s.callers q e) caller row
          (embedded_fits s.callers q e low)
          ∙ ap (λ (part : Content). word_of (local_of w j) k part)
          (content_embedded s.callers q e) in
          omega (arith, word, high)

    -- What a local keeps as its scan under way takes a word.
    module _ (j : ℕ) (l : Local) (h : High j l) (keeps : IsKeptIn l.phase l.to_embed) (scan : Scan)
        (cut : List ℕ)
        (high : count_of s from scan.region j < own_count l scan.region
        → IsHighCut scan.region cut) where
      abbrev ended : Local
      ended = record l { scan = None; cuts = l.cuts ++ given_by scan cut ∷ [] }

      ended_high : High j ended
      ended_high =
          record {
            grows = λ r. h.grows r;
            rows = λ r k since below. h.rows r k since below;
            to_embed = λ r staging since. h.to_embed r staging since;
            scan = tt;
          }

      row_high : ((r : Region) → is_staging l.phase r ≡ true → scan.region ≡ r)
          → High j (served ended For_row cut)
      row_high same =
          record {
            grows = λ r. h.grows r;
            rows = λ r k since below. h.rows r k since below;
            to_embed = λ r staging since.
                let there = same r staging in
                let before : count_of s from scan.region j < own_count l scan.region =
                subst (λ (q : Region). count_of s from q j < own_count l q) (sym there) since in
                subst (λ (q : Region). IsHighCut q cut) there (high before);
            scan = tt;
          }

      -- a phase that begins keeps no cut to embed
      turned_high : (views seen : List (List ℕ)) (phase : Phase) → l.to_embed ≡ None
          → High j (record ended { views = views; seen = seen; phase = phase })
      turned_high views seen phase none =
          record {
            grows = λ r. h.grows r;
            rows = λ r k since below. h.rows r k since below;
            to_embed = λ r staging since. kept_high r l.to_embed none;
            scan = tt;
          }

      served_high : (phase : Phase) → l.phase ≡ phase
          → High j (served ended (purpose_of phase l.staged scan) cut)
      served_high Announcing is =
          cond_both (is_same_region scan.region N && is_unstaged l.staged) For_row For_nothing
          (λ (p : Purpose). High j (served ended p cut))
          (λ e. row_high (announcing_in_N l.phase scan.region is (same_region_is scan.region N
          (and_parts (is_same_region scan.region N) (is_unstaged l.staged) e).0))) (λ _. ended_high)
      served_high Publishing is =
          cond_both (is_same_region scan.region M && is_unstaged l.staged) For_row For_nothing
          (λ (p : Purpose). High j (served ended p cut))
          (λ e. row_high (publishing_in_M l.phase scan.region is (same_region_is scan.region M
          (and_parts (is_same_region scan.region M) (is_unstaged l.staged) e).0))) (λ _. ended_high)
      served_high Viewing is =
          cond_both (is_same_region scan.region N && scan.is_view) For_view For_nothing
          (λ (p : Purpose). High j (served ended p cut))
          (λ e. turned_high (l.views ++ cut ∷ []) l.seen Publishing
          (subst (λ (f : Phase). IsKeptIn f l.to_embed) is keeps)) (λ _. ended_high)
      served_high Judging is =
          cond_both (is_same_region scan.region M) For_seen For_nothing
          (λ (p : Purpose). High j (served ended p cut))
          (λ e. turned_high l.views (l.seen ++ cut ∷ []) Announcing
          (subst (λ (f : Phase). IsKeptIn f l.to_embed) is keeps)) (λ _. ended_high)
      served_high Asking is = ended_high

    scanning_high : (j : ℕ) (l : Local) (o : Option Scan) → High j l → IsHighScan j l o
        → High j (record l { scan = o })
    scanning_high j l None h high =
        record {
          grows = λ r. h.grows r;
          rows = λ r k since below. h.rows r k since below;
          to_embed = λ r staging since. h.to_embed r staging since;
          scan = tt;
        }
    scanning_high j l (Some scan) h high =
        record {
          grows = λ r. h.grows r;
          rows = λ r k since below. h.rows r k since below;
          to_embed = λ r staging since. h.to_embed r staging since;
          scan = high;
        }

    went_on_high : (j : ℕ) (l : Local) (scan : Scan) (want : Want) → High j l
        → IsKeptIn l.phase l.to_embed → IsHighScan j l (Some scan)
        → wanted s.callers scan.taken ≡ want → High j (went_on l scan want)
    went_on_high j l scan (Done cut) h keeps high done =
        served_high j l h keeps scan cut
        (λ since. done_high scan.region scan.taken cut (high since) done) l.phase refl
    went_on_high j l scan (Wants_look i) h keeps high done = scanning_high j l (Some scan) h high
    went_on_high j l scan (Wants_peek i k e) h keeps high done =
        scanning_high j l (Some scan) h high

    pub fed_high : (j : ℕ) (l : Local) (o : Option Scan) (q : Region) (is_it : Want → Bool) (x : ℕ)
        → High j l → IsKeptIn l.phase l.to_embed → IsHighScan j l o
        → ((taken : List ℕ) → AreHigh q taken → is_it (wanted s.callers taken) ≡ true
        → count_of s from q (length (open_round s.callers taken)) ≤ x)
        → High j (fed s.callers l o q is_it x)
    fed_high j l None q is_it x h keeps high new = h
    fed_high j l (Some scan) q is_it x h keeps high new =
        cond_both (is_same_region scan.region q && is_it (wanted s.callers scan.taken))
        (went_on l (with_word scan x) (wanted s.callers (with_word scan x).taken)) l
        (λ (m : Local). High j m)
        (λ e.
        let parts =
        and_parts (is_same_region scan.region q) (is_it (wanted s.callers scan.taken)) e in
        let region : scan.region ≡ q = same_region_is scan.region q parts.0 in
        went_on_high j l (with_word scan x) (wanted s.callers (with_word scan x).taken) h keeps
        (λ since.
        let old : AreHigh scan.region scan.taken = high since in
        let bound : count_of s from scan.region (length (open_round s.callers scan.taken)) ≤ x =
        subst (λ (r : Region). count_of s from r (length (open_round s.callers scan.taken)) ≤ x)
        (sym region)
        (new scan.taken (subst (λ (r : Region). AreHigh r scan.taken) region old) parts.1) in
        word_high scan.region scan.taken x old bound) refl)
        (λ _. h)

    pub none_taken : (region : Region) → AreHigh region []
    none_taken region k t below fits = absurd (omega (arith, fits))

    pub opened_high : (j : ℕ) (l : Local) (q : Region) (o : Opening)
        → ((r : ℕ) → o ≡ Begins_view r → l.to_embed ≡ None) → High j l → High j (opened l q o)
    opened_high j l q Begins_none none h = h
    opened_high j l q Begins_scan none h =
        scanning_high j l (Some (begun l q false)) h (λ since. none_taken q)
    opened_high j l q (Begins_view reply) none h =
        record {
          grows = λ r. h.grows r;
          rows = λ r k since below. h.rows r k since below;
          to_embed = λ r staging since. kept_high r l.to_embed (none reply refl);
          scan = λ since. none_taken q;
        }
