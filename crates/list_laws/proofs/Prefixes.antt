-- Prefixes of a list: their items, and where to end one.
use Rattle.std.proofs.Common.{◌≡◌, ℕ, zero, suc, ◌<◌, ◌≤◌, ◌⊎◌, Bool, true, false, List, [], ◌∷◌, ◌++◌, length, take, Some, refl, sym, ap, ◌∙◌, inl, inr, slice_get, arith}
use Rattle.std.proofs.lemmas.Bool.{cases_Bool, both_ways}
use Rattle.std.proofs.lemmas.Option.{same_Some, none-some}

-- a prefix has the same items as the list below its length
pub slice_get-take_within : {X : Type 0} (n : ℕ) (xs : List X) (k : ℕ) → k < n
    → slice_get (take n xs) k ≡ slice_get xs k
slice_get-take_within zero xs k h = absurd (omega arith)
slice_get-take_within (suc n) [] k h = refl
slice_get-take_within (suc n) (x ∷ xs) zero h = refl
slice_get-take_within (suc n) (x ∷ xs) (suc k) h = slice_get-take_within n xs k (omega arith)

-- an item of a prefix is at a place below the prefix's length
pub slice_get-take_below : {X : Type 0} (n : ℕ) (xs : List X) (k : ℕ) (z : X)
    → slice_get (take n xs) k ≡ Some z → k < n
slice_get-take_below zero xs k z e = absurd (none-some z e)
slice_get-take_below (suc n) [] k z e = absurd (none-some z e)
slice_get-take_below (suc n) (x ∷ xs) zero z e = omega arith
slice_get-take_below (suc n) (x ∷ xs) (suc k) z e = let h = slice_get-take_below n xs k z e in
    omega arith

-- an item of a list is at the same place when more items follow
pub slice_get-append_within : {X : Type 0} (xs ys : List X) (k : ℕ) → k < length xs
    → slice_get (xs ++ ys) k ≡ slice_get xs k
slice_get-append_within [] ys k h = absurd (omega arith)
slice_get-append_within (x ∷ xs) ys zero h = refl
slice_get-append_within (x ∷ xs) ys (suc k) h = slice_get-append_within xs ys k (omega arith)

-- two lists with the same item at each place are equal
pub same_from_places : {X : Type 0} (xs ys : List X)
    → ((k : ℕ) → slice_get xs k ≡ slice_get ys k) → xs ≡ ys
same_from_places [] [] h = refl
same_from_places [] (y ∷ ys) h = absurd (none-some y (h 0))
same_from_places (x ∷ xs) [] h = absurd (none-some x (sym (h 0)))
same_from_places (x ∷ xs) (y ∷ ys) h =
    let first = same_Some x y (h 0) in
    let rest = same_from_places xs ys (λ k. h (suc k)) in
    cc

-- A prefix ends after the last item that passes a test: each item that passes is in the prefix, and
-- from each of the prefix's places on such an item is in it.
pub record EndsAfterLast {X : Type 0} (passes : X → Bool) (xs : List X) (n : ℕ) : Type 0 where
  pub all : (k : ℕ) (z : X) → slice_get xs k ≡ Some z → passes z ≡ true → k < n
  pub last : (k : ℕ) → k < n → (m : ℕ) × (z : X) × (k ≤ m) × (m < n) × (slice_get xs m ≡ Some z)
      × (passes z ≡ true)

-- with one more item before the list, the prefix that is one longer has each item that passes
longer_all : {X : Type 0} (passes : X → Bool) (x : X) (xs : List X) (n : ℕ)
    → EndsAfterLast passes xs n
    → (k : ℕ) (z : X) → slice_get (x ∷ xs) k ≡ Some z → passes z ≡ true → k < suc n
longer_all passes x xs n h zero z e p = omega arith
longer_all passes x xs n h (suc k) z e p = let lt = h.all k z e p in omega arith

longer_last : {X : Type 0} (passes : X → Bool) (x : X) (xs : List X) (n : ℕ)
    → EndsAfterLast passes xs n → (0 < n) ⊎ (passes x ≡ true)
    → (k : ℕ) → k < suc n → (m : ℕ) × (z : X) × (k ≤ m) × (m < suc n)
    × (slice_get (x ∷ xs) m ≡ Some z) × (passes z ≡ true)
longer_last passes x xs n h some zero lt = elim some [
  | inl more ↦ let found = h.last 0 more in
      (suc found.0, found.1, omega arith, omega (arith, found.3), found.4, found.5)
  | inr here ↦ (0, x, omega arith, omega arith, refl, here)
]
longer_last passes x xs n h some (suc k) lt =
    let found = h.last k (omega arith) in
    (suc found.0, found.1, omega (arith, found.2), omega (arith, found.3), found.4, found.5)

ends_after-longer : {X : Type 0} (passes : X → Bool) (x : X) (xs : List X) (n : ℕ)
    → EndsAfterLast passes xs n → (0 < n) ⊎ (passes x ≡ true)
    → EndsAfterLast passes (x ∷ xs) (suc n)
ends_after-longer passes x xs n h some =
    record { all = longer_all passes x xs n h; last = longer_last passes x xs n h some }

-- with one more item that doesn't pass before a list in which none passes, the empty prefix has
-- each item that passes
none_passes : {X : Type 0} (passes : X → Bool) (x : X) (xs : List X) → EndsAfterLast passes xs 0
    → passes x ≡ false
    → (k : ℕ) (z : X) → slice_get (x ∷ xs) k ≡ Some z → passes z ≡ true → k < 0
none_passes passes x xs h fails zero z e p =
    absurd (both_ways (passes x) fails (ap passes (same_Some x z e) ∙ p))
none_passes passes x xs h fails (suc k) z e p = absurd (omega (arith, h.all k z e p))

longer : {X : Type 0} (passes : X → Bool) (x : X) (xs : List X) (n : ℕ) → EndsAfterLast passes xs n
    → (n : ℕ) × EndsAfterLast passes (x ∷ xs) n
longer passes x xs zero h = elim (cases_Bool (passes x)) [
  | inl here ↦ (1, ends_after-longer passes x xs 0 h (inr here))
  | inr fails ↦
      (0, record { all = none_passes passes x xs h fails; last = λ k lt. absurd (omega arith) })
]
longer passes x xs (suc n) h =
    (suc (suc n), ends_after-longer passes x xs (suc n) h (inl (omega arith)))

-- each list has such a prefix
pub ends_after_last : {X : Type 0} (passes : X → Bool) (xs : List X) → (n : ℕ)
    × EndsAfterLast passes xs n
ends_after_last passes [] =
    (0, record { all = λ k z e p. absurd (none-some z e); last = λ k lt. absurd (omega arith) })
ends_after_last passes (x ∷ xs) = let rest = ends_after_last passes xs in
    longer passes x xs rest.0 rest.1
