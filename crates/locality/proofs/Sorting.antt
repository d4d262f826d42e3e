-- Lists of ranked items, sorted by rank.
use Rattle.std.proofs.Common.{◌≡◌, ℕ, zero, suc, ◌<◌, ◌≤◌, ◌∙◌, Bool, true, false, cond, leb, List, [], ◌∷◌, filter, slice_get, Some, refl, sym, ap, subst, inl, inr, arith}
use Rattle.std.specs.List.{AllByRecursion}
use Rattle.std.proofs.lemmas.Bool.{cases_Bool, cond-true, cond-false, leb-true, leb-false}
use Rattle.std.proofs.lemmas.Option.{none-some, same_Some}
use Rattle.smaller_book.proofs.Filtering.{filter-kept, filter-gone}

-- What holds of each item of a list holds of the item at each index.
pub all_at : {X : Type 0} (P : X → Type 0) (xs : List X) (k : ℕ) (x : X) → AllByRecursion P xs
    → slice_get xs k ≡ Some x → P x
all_at P [] k x all at = absurd (none-some x at)
all_at P (y ∷ ys) zero x all at = subst P (same_Some y x at) all.0
all_at P (y ∷ ys) (suc k) x all at = all_at P ys k x all.1 at

-- What holds of the item at each index of a list holds of each item by recursion.
pub all_from_indices : {X : Type 0} (P : X → Type 0) (xs : List X)
    → ((k : ℕ) (x : X) → slice_get xs k ≡ Some x → P x) → AllByRecursion P xs
all_from_indices P [] holds = tt
all_from_indices P (x ∷ xs) holds =
    (holds 0 x refl, all_from_indices P xs (λ k y at. holds (suc k) y at))

-- Where one property follows from another, it holds of each item of a list that has the other.
pub all_weaker : {X : Type 0} (P Q : X → Type 0) → ((x : X) → P x → Q x) → (xs : List X)
    → AllByRecursion P xs → AllByRecursion Q xs
all_weaker P Q gives [] all = tt
all_weaker P Q gives (x ∷ xs) all = (gives x all.0, all_weaker P Q gives xs all.1)

-- A ranked item is the rank and the item. In a sorted list no rank is less than one before it.
abbrev pub IsRankSorted : {X : Type 0} → List (ℕ × X) → Type 0
IsRankSorted [] = Unit {0}
IsRankSorted (x ∷ xs) = AllByRecursion (λ y. x.0 ≤ y.0) xs × IsRankSorted xs

-- In a sorted list the rank at an index is at most the rank at each later index.
pub ranks_rise : {X : Type 0} (xs : List (ℕ × X)) (j k : ℕ) (a b : ℕ × X) → IsRankSorted xs → j ≤ k
    → slice_get xs j ≡ Some a → slice_get xs k ≡ Some b → a.0 ≤ b.0
ranks_rise {X} [] j k a b is le at bt = absurd (none-some a at)
ranks_rise {X} (x ∷ xs) zero zero a b is le at bt =
    let same : a ≡ b = sym (same_Some x a at) ∙ same_Some x b bt in
    omega (arith, ap (λ (y : ℕ × X). y.0) same)
ranks_rise {X} (x ∷ xs) zero (suc k) a b is le at bt =
    let above : x.0 ≤ b.0 = all_at (λ (y : ℕ × X). x.0 ≤ y.0) xs k b is.0 bt in
    omega (arith, ap (λ (y : ℕ × X). y.0) (same_Some x a at), above)
ranks_rise {X} (x ∷ xs) (suc j) zero a b is le at bt = absurd (omega (arith, le))
ranks_rise {X} (x ∷ xs) (suc j) (suc k) a b is le at bt =
    ranks_rise xs j k a b is.1 (omega (arith, le)) at bt

-- a list with a ranked item before the first one whose rank is no less
abbrev insert_by_rank : {X : Type 0} → ℕ × X → List (ℕ × X) → List (ℕ × X)
insert_by_rank x [] = x ∷ []
insert_by_rank x (y ∷ ys) = cond (leb x.0 y.0) (x ∷ y ∷ ys) (y ∷ insert_by_rank x ys)

-- The ranked items of a list, sorted by rank; items of one rank keep their order.
abbrev pub sort_by_rank : {X : Type 0} → List (ℕ × X) → List (ℕ × X)
sort_by_rank [] = []
sort_by_rank (x ∷ xs) = insert_by_rank x (sort_by_rank xs)

all-insert : {X : Type 0} (P : ℕ × X → Type 0) (x : ℕ × X) (ys : List (ℕ × X)) → P x
    → AllByRecursion P ys → AllByRecursion P (insert_by_rank x ys)
all-insert P x [] first all = (first, tt)
all-insert P x (y ∷ ys) first all = elim (cases_Bool (leb x.0 y.0)) [
  | inl before ↦ subst (AllByRecursion P)
      (sym (cond-true (leb x.0 y.0) (x ∷ y ∷ ys) (y ∷ insert_by_rank x ys) before))
      (first, all)
  | inr after ↦ subst (AllByRecursion P)
      (sym (cond-false (leb x.0 y.0) (x ∷ y ∷ ys) (y ∷ insert_by_rank x ys) after))
      (all.0, all-insert P x ys first all.1)
]

sorted-insert : {X : Type 0} (x : ℕ × X) (ys : List (ℕ × X)) → IsRankSorted ys
    → IsRankSorted (insert_by_rank x ys)
sorted-insert x [] is = (tt, tt)
sorted-insert {X} x (y ∷ ys) is = elim (cases_Bool (leb x.0 y.0)) [
  | inl before ↦
      let le : x.0 ≤ y.0 = leb-true x.0 y.0 before in
      let rest : AllByRecursion (λ (z : ℕ × X). x.0 ≤ z.0) ys =
      all_weaker (λ (z : ℕ × X). y.0 ≤ z.0) (λ (z : ℕ × X). x.0 ≤ z.0)
      (λ z more. omega (arith, le, more)) ys is.0 in
      let whole : IsRankSorted (x ∷ y ∷ ys) = ((le, rest), is) in
      subst IsRankSorted
      (sym (cond-true (leb x.0 y.0) (x ∷ y ∷ ys) (y ∷ insert_by_rank x ys) before)) whole
  | inr after ↦
      let lt : y.0 < x.0 = leb-false x.0 y.0 after in
      let whole : IsRankSorted (y ∷ insert_by_rank x ys) =
      (all-insert (λ (z : ℕ × X). y.0 ≤ z.0) x ys (omega (arith, lt)) is.0, sorted-insert x ys is.1)
      in
      subst IsRankSorted
      (sym (cond-false (leb x.0 y.0) (x ∷ y ∷ ys) (y ∷ insert_by_rank x ys) after)) whole
]

-- A sorted list is sorted.
pub sort_by_rank-sorted : {X : Type 0} (xs : List (ℕ × X)) → IsRankSorted (sort_by_rank xs)
sort_by_rank-sorted [] = tt
sort_by_rank-sorted (x ∷ xs) = sorted-insert x (sort_by_rank xs) (sort_by_rank-sorted xs)

filter-insert_gone : {X : Type 0} (p : ℕ × X → Bool) (x : ℕ × X) (ys : List (ℕ × X))
    → p x ≡ false → filter p (insert_by_rank x ys) ≡ filter p ys
filter-insert_gone p x [] gone = filter-gone p x [] gone
filter-insert_gone {X} p x (y ∷ ys) gone = elim (cases_Bool (leb x.0 y.0)) [
  | inl before ↦
      ap (filter p) (cond-true (leb x.0 y.0) (x ∷ y ∷ ys) (y ∷ insert_by_rank x ys) before)
      ∙ filter-gone p x (y ∷ ys) gone
  | inr after ↦
      ap (filter p) (cond-false (leb x.0 y.0) (x ∷ y ∷ ys) (y ∷ insert_by_rank x ys) after)
      ∙ ap (λ (zs : List (ℕ × X)). cond (p y) (y ∷ zs) zs) (filter-insert_gone p x ys gone)
]

filter-insert_kept : {X : Type 0} (p : ℕ × X → Bool) (x : ℕ × X) (ys : List (ℕ × X))
    → p x ≡ true → AllByRecursion (λ y. x.0 ≤ y.0) (filter p ys)
    → filter p (insert_by_rank x ys) ≡ x ∷ filter p ys
filter-insert_kept p x [] kept above = filter-kept p x [] kept
filter-insert_kept {X} p x (y ∷ ys) kept above = elim (cases_Bool (leb x.0 y.0)) [
  | inl before ↦
      ap (filter p) (cond-true (leb x.0 y.0) (x ∷ y ∷ ys) (y ∷ insert_by_rank x ys) before)
      ∙ filter-kept p x (y ∷ ys) kept
  | inr after ↦
      let All : List (ℕ × X) → Type 0 = AllByRecursion (λ y. x.0 ≤ y.0) in
      let less : y.0 < x.0 = leb-false x.0 y.0 after in
      ap (filter p) (cond-false (leb x.0 y.0) (x ∷ y ∷ ys) (y ∷ insert_by_rank x ys) after)
      ∙ elim (cases_Bool (p y)) [
        | inl passes ↦
            let both : All (y ∷ filter p ys) = subst All (filter-kept p y ys passes) above in
            absurd (omega (arith, both.0, less))
        | inr fails ↦
            filter-gone p y (insert_by_rank x ys) fails
            ∙ (filter-insert_kept p x ys kept (subst All (filter-gone p y ys fails) above)
            ∙ ap (λ (zs : List (ℕ × X)). x ∷ zs) (sym (filter-gone p y ys fails)))
      ]
]

-- What a filter keeps of a list is the same before and after sorting, where it is sorted.
pub filter-sort_by_rank : {X : Type 0} (p : ℕ × X → Bool) (xs : List (ℕ × X))
    → IsRankSorted (filter p xs) → filter p (sort_by_rank xs) ≡ filter p xs
filter-sort_by_rank p [] is = refl
filter-sort_by_rank {X} p (x ∷ xs) is = elim (cases_Bool (p x)) [
  | inl kept ↦
      let All : List (ℕ × X) → Type 0 = AllByRecursion (λ y. x.0 ≤ y.0) in
      let parts : IsRankSorted (x ∷ filter p xs) =
      subst IsRankSorted (filter-kept p x xs kept) is in
      let rest = filter-sort_by_rank p xs parts.1 in
      filter-insert_kept p x (sort_by_rank xs) kept (subst All (sym rest) parts.0)
      ∙ (ap (λ (ys : List (ℕ × X)). x ∷ ys) rest ∙ sym (filter-kept p x xs kept))
  | inr gone ↦
      filter-insert_gone p x (sort_by_rank xs) gone
      ∙ (filter-sort_by_rank p xs (subst IsRankSorted (filter-gone p x xs gone) is)
      ∙ sym (filter-gone p x xs gone))
]

-- ---- indices of what a filter keeps

-- An item that passes is among those that a filter keeps.
pub filter-index : {X : Type 0} (p : X → Bool) (xs : List X) (k : ℕ) (x : X)
    → slice_get xs k ≡ Some x → p x ≡ true → (i : ℕ) × (slice_get (filter p xs) i ≡ Some x)
filter-index p [] k x at passes = absurd (none-some x at)
filter-index {X} p (y ∷ ys) zero x at passes =
    let same : y ≡ x = same_Some y x at in
    let kept : filter p (y ∷ ys) ≡ y ∷ filter p ys =
    filter-kept p y ys (ap p same ∙ passes) in
    (0, ap (λ (zs : List X). slice_get zs 0) kept ∙ ap Some same)
filter-index {X} p (y ∷ ys) (suc k) x at passes =
    let rest = filter-index p ys k x at passes in
    elim (cases_Bool (p y)) [
      | inl kept ↦ (
        suc rest.0,
        ap (λ (zs : List X). slice_get zs (suc rest.0)) (filter-kept p y ys kept)
            ∙ rest.1,
      )
      | inr gone ↦
          (rest.0, ap (λ (zs : List X). slice_get zs rest.0) (filter-gone p y ys gone) ∙ rest.1)
    ]

-- Of two items that pass, the first one is also the first one among those that a filter keeps.
pub filter-indices : {X : Type 0} (p : X → Bool) (xs : List X) (j k : ℕ) (x y : X) → j < k
    → slice_get xs j ≡ Some x → slice_get xs k ≡ Some y → p x ≡ true → p y ≡ true
    → (i : ℕ) × (l : ℕ) × (i < l) × (slice_get (filter p xs) i ≡ Some x)
    × (slice_get (filter p xs) l ≡ Some y)
filter-indices p [] j k x y less at bt first second = absurd (none-some x at)
filter-indices p (z ∷ zs) j zero x y less at bt first second = absurd (omega (arith, less))
filter-indices {X} p (z ∷ zs) zero (suc k) x y less at bt first second =
    let same : z ≡ x = same_Some z x at in
    let kept : filter p (z ∷ zs) ≡ z ∷ filter p zs =
    filter-kept p z zs (ap p same ∙ first) in
    let rest = filter-index p zs k y bt second in (
      0,
      suc rest.0,
      omega arith,
      ap (λ (us : List X). slice_get us 0) kept ∙ ap Some same,
      ap (λ (us : List X). slice_get us (suc rest.0)) kept ∙ rest.1,
    )
filter-indices {X} p (z ∷ zs) (suc j) (suc k) x y less at bt first second =
    let rest = filter-indices p zs j k x y (omega (arith, less)) at bt first second in
    elim (cases_Bool (p z)) [
      | inl kept ↦ (
        suc rest.0,
        suc rest.1,
        omega (arith, rest.2),
        ap (λ (us : List X). slice_get us (suc rest.0)) (filter-kept p z zs kept) ∙ rest.3,
        ap (λ (us : List X). slice_get us (suc rest.1)) (filter-kept p z zs kept) ∙ rest.4,
      )
      | inr gone ↦ (
        rest.0,
        rest.1,
        rest.2,
        ap (λ (us : List X). slice_get us rest.0) (filter-gone p z zs gone) ∙ rest.3,
        ap (λ (us : List X). slice_get us rest.1) (filter-gone p z zs gone) ∙ rest.4,
      )
    ]

-- A list's items are among those of the list with one more item before it.
in_longer : {X : Type 0} (x : X) (xs zs : List X)
    → ((i : ℕ) (y : X) → slice_get xs i ≡ Some y → (k : ℕ) × (slice_get zs k ≡ Some y))
    → (i : ℕ) (y : X) → slice_get (x ∷ xs) i ≡ Some y → (k : ℕ) × (slice_get (x ∷ zs) k ≡ Some y)
in_longer x xs zs holds zero y at = (0, at)
in_longer x xs zs holds (suc i) y at = let rest = holds i y at in (suc rest.0, rest.1)

-- An item that a filter keeps is in the list.
pub filter-index_back : {X : Type 0} (p : X → Bool) (xs : List X) (i : ℕ) (x : X)
    → slice_get (filter p xs) i ≡ Some x → (k : ℕ) × (slice_get xs k ≡ Some x)
filter-index_back p [] i x at = absurd (none-some x at)
filter-index_back {X} p (y ∷ ys) i x at = elim (cases_Bool (p y)) [
  | inl kept ↦
      in_longer y (filter p ys) ys (λ j z there. filter-index_back p ys j z there) i x
      (ap (λ (zs : List X). slice_get zs i) (sym (filter-kept p y ys kept)) ∙ at)
  | inr gone ↦
      let rest = filter-index_back p ys i x
      (ap (λ (zs : List X). slice_get zs i) (sym (filter-gone p y ys gone)) ∙ at) in
      (suc rest.0, rest.1)
]
