-- Which word a scan wants, by its course; and the cut with which a scan ends, which is one of its
-- rounds.
use Rattle.std.proofs.Common.{◌≡◌, ℕ, zero, suc, ◌+◌, ◌-◌, ◌*◌, ◌<◌, ◌≤◌, Bool, true, false, if◌then◌else◌, ◌&&◌, ◌==◌, nat_lt, List, length, drop, slice_index, Option, Some, None, refl, sym, ap, ◌∙◌, subst, arith, length-drop}
use Rattle.std.proofs.lemmas.List.{get_or-take, get_or-drop, length-take-le}
use Rattle.std.proofs.lemmas.Bool.{and_parts, eqb-true, ltb-true}
use Rattle.world_core.specs.declared.region.Region.{Region}
use Rattle.world_core.specs.declared.region.Region.TheVariants.{N, M}
use Rattle.world_core.specs.declared.course.Course.{Course}
use Rattle.world_core.specs.declared.course.Course.TheVariants.{Collects, Borrows, Ends}
use Rattle.world_core.specs.declared.want.Want.TheVariants.{Done}
use Rattle.world_core.specs.Layout.{View_entry, Embedded_entry, content, embedded_place, places}
use Rattle.world_core.specs.Scan.{rounds, round, open_round, last_of, course, course_after, course_on, course_by, lent_by, mover, is_same_cut, wanted, wanted_by}
use Rattle.world_core.specs.Local.{Phase, Announcing, Publishing}
use Rattle.world_core.specs.Event.{is_same_region, is_staging, is_look_wanted, is_peek_wanted}
use Rattle.world_core.proofs.Scans.{open_length}

pub same_region_is : (r q : Region) → is_same_region r q ≡ true → r ≡ q
same_region_is N N h = refl
same_region_is M M h = refl
same_region_is N M h = absurd cc
same_region_is M N h = absurd cc

-- A caller that announces stages rows of the region N alone.
pub announcing_in_N : (phase : Phase) (region : Region) → phase ≡ Announcing → region ≡ N
    → (r : Region) → is_staging phase r ≡ true → region ≡ r
announcing_in_N phase region is same N staging = same
announcing_in_N phase region is same M staging = let never : false ≡ true =
    sym (ap (λ (f : Phase). is_staging f M) is) ∙ staging in absurd cc

-- A caller that publishes stages rows of the region M alone.
pub publishing_in_M : (phase : Phase) (region : Region) → phase ≡ Publishing → region ≡ M
    → (r : Region) → is_staging phase r ≡ true → region ≡ r
publishing_in_M phase region is same M staging = same
publishing_in_M phase region is same N staging = let never : false ≡ true =
    sym (ap (λ (f : Phase). is_staging f N) is) ∙ staging in absurd cc

-- a scan that is done has ended with that cut
pub done_ends : (c : Course) (words cut : List ℕ) → wanted_by c words ≡ Done cut → c ≡ Ends cut
done_ends Collects words cut h = absurd cc
done_ends (Borrows j row) words cut h = absurd cc
done_ends (Ends other) words cut h = cc

-- The cut is one of the whole rounds.
pub record IsRoundOf (n : ℕ) (taken cut : List ℕ) : Type 0 where
  pub number : ℕ
  pub whole : suc number * n ≤ length taken
  pub is : cut ≡ round n taken number

ends_lent : (latest cut : List ℕ) (m : Option ℕ) → lent_by latest m ≡ Ends cut → ⊥
ends_lent latest cut None h = cc
ends_lent latest cut (Some j) h = cc

ends_same : (b : Bool) (first latest cut : List ℕ)
    → (if b then Ends latest else lent_by latest (mover first latest)) ≡ Ends cut → cut ≡ latest
ends_same true first latest cut h = cc
ends_same false first latest cut h = absurd (ends_lent latest cut (mover first latest) h)

ends_collect : (first : List ℕ) (last : Option (List ℕ)) (latest cut : List ℕ)
    → course_by first last latest ≡ Ends cut → cut ≡ latest
ends_collect first None latest cut h = absurd cc
ends_collect first (Some before) latest cut h =
    ends_same (is_same_cut before latest) first latest cut h

module _ (n : ℕ) (taken : List ℕ) where
  ended_by : (k : ℕ) (cut : List ℕ) (c : Course) → course_after n taken k ≡ c
      → suc k * n ≤ length taken
      → course_on (round n taken 0) (last_of n taken k) (round n taken k) c ≡ Ends cut
      → ((other : List ℕ) → course_after n taken k ≡ Ends other → IsRoundOf n taken other)
      → IsRoundOf n taken cut
  ended_by k cut Collects is fits h before = record {
    number = k;
    whole = fits;
    is = ends_collect (round n taken 0) (last_of n taken k) (round n taken k) cut h;
  }
  ended_by k cut (Borrows j row) is fits h before = record { number = k; whole = fits; is = cc }
  ended_by k cut (Ends other) is fits h before =
      subst (IsRoundOf n taken) (let e : other ≡ cut = cc in e) (before other is)

  ended_after : (k : ℕ) (cut : List ℕ) → k * n ≤ length taken → course_after n taken k ≡ Ends cut
      → IsRoundOf n taken cut
  ended_after zero cut fits h = absurd cc
  ended_after (suc k) cut fits h = ended_by k cut (course_after n taken k) refl fits h
      (λ other e. ended_after k other (omega arith) e)

  module _ (some : 0 < n) where
    pub ended_round : (cut : List ℕ) → wanted n taken ≡ Done cut → IsRoundOf n taken cut
    ended_round cut h =
        ended_after (rounds n taken) cut (omega (arith, open_length n taken 0 some))
        (done_ends (course n taken) (open_round n taken) cut h)

  -- a word of a round, and how long it is
  pub round_word : (k t : ℕ) → t < n
      → slice_index (round n taken k) t ≡ slice_index taken (k * n + t)
  round_word k t below =
      get_or-take n (drop (k * n) taken) t 0 below ∙ get_or-drop (k * n) taken t 0

  pub round_length : (k : ℕ) → suc k * n ≤ length taken → length (round n taken k) ≡ n
  round_length k fits =
      length-take-le n (drop (k * n) taken) (omega (arith, length-drop (k * n) taken))

-- a look that is wanted is the one that the collect lacks
pub look_is : (c : Course) (words : List ℕ) (j : ℕ) → is_look_wanted j (wanted_by c words) ≡ true
    → (c ≡ Collects) × (j ≡ length words)
look_is Collects words j h = (refl, sym (eqb-true (length words) j h))
look_is (Borrows i row) words j h = absurd cc
look_is (Ends cut) words j h = absurd cc

-- A peek that is wanted is of the entry that the borrowed cut lacks next.
pub record IsPeekOf (n : ℕ) (region : Region) (j k place : ℕ) (c : Course)
    (words : List ℕ) : Type 0 where
  pub borrows : c ≡ Borrows j k
  pub at : place ≡ embedded_place n region (length words)

pub peek_is : (n : ℕ) (region : Region) (j k place : ℕ) (c : Course) (words : List ℕ)
    → is_peek_wanted n region j k place (wanted_by c words) ≡ true
    → IsPeekOf n region j k place c words
peek_is n region j k place Collects words h = absurd cc
peek_is n region j k place (Ends cut) words h = absurd cc
peek_is n region j k place (Borrows i row) words h =
    let a = and_parts (i == j) (row == k && embedded_place n region (length words) == place) h in
    let b = and_parts (row == k) (embedded_place n region (length words) == place) a.1 in
    let caller : i ≡ j = eqb-true i j a.0 in
    let row_is : row ≡ k = eqb-true row k b.0 in
    record {
      borrows = cc (caller, row_is);
      at = sym (eqb-true (embedded_place n region (length words)) place b.1);
    }

-- place n + e of a row of M is for entry e of the embedded cut
suffix : (n e i : ℕ) (b : Bool) → nat_lt (n + e) n ≡ b → i ≡ e
    → (if b then View_entry (n + e) else Embedded_entry M i) ≡ Embedded_entry M e
suffix n e i true less same =
    absurd (let h : n + e < n = ltb-true (n + e) n less in omega (arith, h))
suffix n e i false less same = ap (Embedded_entry M) same

pub content_embedded : (n : ℕ) (region : Region) (e : ℕ)
    → content n region (embedded_place n region e) ≡ Embedded_entry region e
content_embedded n N e = ap (content n N) (let h : 2 + e ≡ suc (suc e) = omega arith in h)
content_embedded n M e =
    ap (content n M) (let h : 1 + (n + e) ≡ suc (n + e) = omega arith in h)
    ∙ suffix n e (n + e - n) (nat_lt (n + e) n) refl (omega arith)

pub embedded_fits : (n : ℕ) (region : Region) (e : ℕ) → e < n
    → embedded_place n region e < places n region
embedded_fits n N e low = omega arith
embedded_fits n M e low = omega arith
