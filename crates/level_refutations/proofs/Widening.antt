-- Cuts with a count for each caller that a book may have.
use Rattle.std.proofs.Common.{◌≡◌, ℕ, zero, suc, ◌+◌, ◌-◌, ◌<◌, ◌≤◌, ◌↔◌, ◌∙◌, List, [], ◌∷◌, ◌++◌, length, map, replicate, take, get_or, slice_set, Some, inl, inr, refl, sym, ap, subst, slice_get, arith}
use Rattle.std.proofs.lemmas.List.{length-set, length-replicate, map_push}
use Rattle.std.proofs.lemmas.List.Sums.{fold_more}
use Rattle.std.proofs.lemmas.Option.{same_Some, slice_get-get_or}
use Rattle.list_laws.proofs.Places.{slice_get-push_cases}
use Rattle.book_base.specs.declared.TheConstants.{MAX_CALLERS}
use Rattle.book_base.specs.Book.{Page}
use Rattle.book_base.specs.Next.{raised}
use Rattle.level_refutations.specs.declared.entry.LevelEntry.{LevelEntry}
use Rattle.level_refutations.specs.declared.node.Node.{Node}
use Rattle.level_refutations.specs.Closed.{AreNodesAt, no_calls, with_cut, cuts_of}
use Rattle.level_refutations.specs.Stored.{wide_of, AreWide, AreCuts}
use Rattle.level_refutations.proofs.Listing.{no_entry}

-- The cuts of the first k + 1 entries are those of the first k with what entry k leaves.
pub cuts_more : (book : List Page) (entries : List LevelEntry) (k : ℕ) (made : LevelEntry)
    → slice_get entries k ≡ Some made → k < length entries
    → cuts_of book (take (k + 1) entries) ≡ with_cut book (cuts_of book (take k entries)) made
cuts_more book entries k made at less =
    let here : get_or entries k no_entry ≡ made =
    same_Some (get_or entries k no_entry) made
    (sym (slice_get-get_or entries k no_entry less) ∙ at) in
    fold_more (with_cut book) (no_calls book ∷ []) entries k no_entry less
    ∙ ap (with_cut book (cuts_of book (take k entries))) here

set_left : (xs ys : List ℕ) (i v : ℕ) → i < length xs
    → slice_set (xs ++ ys) i v ≡ slice_set xs i v ++ ys
set_left [] ys i v less = absurd (omega (arith, less))
set_left (x ∷ xs) ys zero v less = refl
set_left (x ∷ xs) ys (suc i) v less =
    ap (λ (l : List ℕ). x ∷ l) (set_left xs ys i v (omega (arith, less)))

get_left : (xs ys : List ℕ) (i : ℕ) → i < length xs → get_or (xs ++ ys) i 0 ≡ get_or xs i 0
get_left [] ys i less = absurd (omega (arith, less))
get_left (x ∷ xs) ys zero less = refl
get_left (x ∷ xs) ys (suc i) less = get_left xs ys i (omega (arith, less))

take_left : (xs ys : List ℕ) → take (length xs) (xs ++ ys) ≡ xs
take_left [] ys = refl
take_left (x ∷ xs) ys = ap (λ (l : List ℕ). x ∷ l) (take_left xs ys)

-- The counts of a cut begin with the cut.
pub narrow : (cut : List ℕ) (n : ℕ) → length cut ≡ n → take n (wide_of cut) ≡ cut
narrow cut n long = ap (λ (k : ℕ). take k (wide_of cut)) (sym long)
    ∙ take_left cut (replicate (MAX_CALLERS - length cut) 0)

-- a caller of a cut has the same count in the cut's counts
pub wide_count : (cut : List ℕ) (i : ℕ) → i < length cut
    → get_or (wide_of cut) i 0 ≡ get_or cut i 0
wide_count cut i less = get_left cut (replicate (MAX_CALLERS - length cut) 0) i less

-- The counts of a cut with one more call are the cut's counts with one more call.
pub wide_raised : (cut : List ℕ) (i : ℕ) → i < length cut
    → raised (wide_of cut) i ≡ wide_of (raised cut i)
wide_raised cut i less =
    let zeros : List ℕ = replicate (MAX_CALLERS - length cut) 0 in
    ap (λ (v : ℕ). slice_set (wide_of cut) i (v + 1)) (wide_count cut i less)
    ∙ (set_left cut zeros i (get_or cut i 0 + 1) less
    ∙ ap (λ (n : ℕ). raised cut i ++ replicate (MAX_CALLERS - n) 0)
    (sym (length-set cut i (get_or cut i 0 + 1))))

-- so many zeros
abbrev pub zeros : ℕ → List ℕ
zeros n = replicate n 0

zeros_join : (n m : ℕ) → zeros n ++ zeros m ≡ zeros (n + m)
zeros_join zero m = ap zeros {x = m} {y = 0 + m} (omega arith)
zeros_join (suc n) m = ap (λ (l : List ℕ). 0 ∷ l) (zeros_join n m)
    ∙ ap zeros {x = suc (n + m)} {y = suc n + m} (omega arith)

-- The counts of the cut of no call are all 0.
pub wide_none : (n : ℕ) → n ≤ MAX_CALLERS → zeros MAX_CALLERS ≡ wide_of (zeros n)
wide_none n few =
    let long : length (zeros n) ≡ n = length-replicate {A = ℕ} n 0 in
    sym (ap (λ (k : ℕ). zeros n ++ zeros (MAX_CALLERS - k)) long
    ∙ (zeros_join n (MAX_CALLERS - n)
    ∙ ap zeros {x = n + (MAX_CALLERS - n)} {y = MAX_CALLERS} (omega (arith, few))))

-- the counts before all entries
pub first_cuts : (book : List Page) (stored : List (List ℕ)) → length book ≤ MAX_CALLERS
    → stored ≡ zeros MAX_CALLERS ∷ [] → AreCuts book stored (no_calls book ∷ [])
first_cuts book stored few is = record {
  is = is ∙ ap (λ (l : List ℕ). l ∷ []) (wide_none (length book) few);
  wide = λ c cut at. only c cut at;
}
  where
    only : (c : ℕ) (cut : List ℕ) → slice_get (no_calls book ∷ []) c ≡ Some cut
        → length cut ≡ length book
    only zero cut at = ap (λ (l : List ℕ). length l) (sym (same_Some (no_calls book) cut at))
        ∙ length-replicate {A = ℕ} (length book) 0
    only (suc c) cut at = absurd cc

slice_get-map-some : (cuts : List (List ℕ)) (c : ℕ) (cut : List ℕ) → slice_get cuts c ≡ Some cut
    → slice_get (map wide_of cuts) c ≡ Some (wide_of cut)
slice_get-map-some [] c cut at = absurd cc
slice_get-map-some (x ∷ xs) zero cut at = ap (λ (l : List ℕ). Some (wide_of l)) (same_Some x cut at)
slice_get-map-some (x ∷ xs) (suc c) cut at = slice_get-map-some xs c cut at

slice_get-map-back : (cuts : List (List ℕ)) (c : ℕ) (counts : List ℕ)
    → slice_get (map wide_of cuts) c ≡ Some counts
    → (cut : List ℕ) × (slice_get cuts c ≡ Some cut) × (wide_of cut ≡ counts)
slice_get-map-back [] c counts at = absurd cc
slice_get-map-back (x ∷ xs) zero counts at = (x, refl, same_Some (wide_of x) counts at)
slice_get-map-back (x ∷ xs) (suc c) counts at = slice_get-map-back xs c counts at

module _ (book : List Page) (stored cuts : List (List ℕ)) (are : AreCuts book stored cuts) where
  pub as_long : length stored ≡ length cuts
  as_long = ap (λ (l : List (List ℕ)). length l) are.is ∙ mapped_long cuts
    where
      mapped_long : (cuts : List (List ℕ)) → length (map wide_of cuts) ≡ length cuts
      mapped_long [] = refl
      mapped_long (x ∷ xs) = ap suc (mapped_long xs)

  -- the counts with a number are those of the cut with it
  pub stored_at : (c : ℕ) (cut : List ℕ) → slice_get cuts c ≡ Some cut
      → slice_get stored c ≡ Some (wide_of cut)
  stored_at c cut at = subst (λ (l : List (List ℕ)). slice_get l c ≡ Some (wide_of cut))
      (sym are.is) (slice_get-map-some cuts c cut at)

  pub cut_at : (c : ℕ) (counts : List ℕ) → slice_get stored c ≡ Some counts
      → (cut : List ℕ) × (slice_get cuts c ≡ Some cut) × (wide_of cut ≡ counts)
  cut_at c counts at = slice_get-map-back cuts c counts
      (subst (λ (l : List (List ℕ)). slice_get l c ≡ Some counts) are.is at)

  -- Nodes at stored counts are nodes at the cut.
  pub nodes_as : (nodes : List Node) (l : ℕ) (cut : List ℕ) → length cut ≡ length book
      → AreNodesAt stored nodes l (wide_of cut) ↔ AreNodesAt cuts nodes l cut
  nodes_as nodes l cut long = (
    λ node.
        let found = cut_at node.1 (wide_of cut) node.3 in
        let same : found.0 ≡ cut =
        sym (narrow found.0 (length book) (are.wide node.1 found.0 found.1))
        ∙ (ap (take (length book)) found.2 ∙ narrow cut (length book) long) in
        (node.0, node.1, node.2, found.1 ∙ ap (λ (x : List ℕ). Some x) same),
    λ node. (node.0, node.1, node.2, stored_at node.1 cut node.3),
  )

  -- the counts and the cuts with one more
  pub cuts_push : (cut counts : List ℕ) → length cut ≡ length book → counts ≡ wide_of cut
      → AreCuts book (stored ++ counts ∷ []) (cuts ++ cut ∷ [])
  cuts_push cut counts long is = record {
    is = ap (λ (l : List (List ℕ)). l ++ counts ∷ []) are.is
        ∙ (ap (λ (x : List ℕ). map wide_of cuts ++ x ∷ []) is
        ∙ sym (map_push wide_of cuts cut));
    wide = λ c other at. elim (slice_get-push_cases cuts cut c other at) [
      | inl old ↦ are.wide c other old
      | inr last ↦ ap (λ (l : List ℕ). length l) last.1 ∙ long
    ];
  }

-- counts of a cut have the cut's count of each caller
pub count_as : (n : ℕ) (counts : List ℕ) (i : ℕ) → AreWide n counts → i < n
    → get_or counts i 0 ≡ get_or (take n counts) i 0
count_as n counts i wide less = ap (λ (l : List ℕ). get_or l i 0) wide.1
    ∙ wide_count (take n counts) i (omega (arith, less, wide.0))
