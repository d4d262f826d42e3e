-- Lists that are made of pieces: where an element of such a list comes from, and where an element
-- of a piece goes.
use Rattle.std.proofs.Common.{◌≡◌, ℕ, zero, suc, List, [], ◌∷◌, ◌++◌, Option, Some, None, slice_get, refl, ap, ◌∙◌, ◌⊎◌, inl, inr}
use Rattle.std.specs.List.{cons_option, filter_map, flat_map}
use Rattle.std.proofs.lemmas.Option.{none-some, same_Some}

-- an element of two lists in a row is one of either
append_from : {X : Type 0} (xs ys : List X) (k : ℕ) (z : X) → slice_get (xs ++ ys) k ≡ Some z
    → (slice_get xs k ≡ Some z) ⊎ ((j : ℕ) × (slice_get ys j ≡ Some z))
append_from [] ys k z e = inr (k, e)
append_from (x ∷ xs) ys zero z e = inl e
append_from (x ∷ xs) ys (suc k) z e = append_from xs ys k z e

append_left : {X : Type 0} (xs ys : List X) (k : ℕ) (z : X) → slice_get xs k ≡ Some z
    → slice_get (xs ++ ys) k ≡ Some z
append_left [] ys k z e = absurd (none-some z e)
append_left (x ∷ xs) ys zero z e = e
append_left (x ∷ xs) ys (suc k) z e = append_left xs ys k z e

append_right : {X : Type 0} (xs ys : List X) (k : ℕ) (z : X) → slice_get ys k ≡ Some z → (j : ℕ)
    × (slice_get (xs ++ ys) j ≡ Some z)
append_right [] ys k z e = (k, e)
append_right (x ∷ xs) ys k z e = let later = append_right xs ys k z e in (suc later.0, later.1)

pub from_flat_map : {X Y : Type 0} (f : X → List Y) (xs : List X) (k : ℕ) (y : Y)
    → slice_get (flat_map f xs) k ≡ Some y
    → (i j : ℕ) × (x : X) × (slice_get xs i ≡ Some x) × (slice_get (f x) j ≡ Some y)
from_flat_map f [] k y e = absurd (none-some y e)
from_flat_map f (x ∷ xs) k y e = elim (append_from (f x) (flat_map f xs) k y e) [
  | inl own ↦ (0, k, x, refl, own)
  | inr later ↦ let found = from_flat_map f xs later.0 y later.1 in
      (suc found.0, found.1, found.2, found.3, found.4)
]

pub in_flat_map : {X Y : Type 0} (f : X → List Y) (xs : List X) (i j : ℕ) (x : X) (y : Y)
    → slice_get xs i ≡ Some x → slice_get (f x) j ≡ Some y
    → (k : ℕ) × (slice_get (flat_map f xs) k ≡ Some y)
in_flat_map f [] i j x y e own = absurd (none-some x e)
in_flat_map f (first ∷ xs) zero j x y e own = (
  j,
  append_left (f first) (flat_map f xs) j y
      (ap (λ z. slice_get (f z) j) (same_Some first x e) ∙ own),
)
in_flat_map f (first ∷ xs) (suc i) j x y e own =
    let later = in_flat_map f xs i j x y e own in
    append_right (f first) (flat_map f xs) later.0 y later.1

-- an element of a list is also one of the list before which an optional first item is put
suffix : {Y : Type 0} (o : Option Y) (ys : List Y) (k : ℕ) (y : Y) → slice_get ys k ≡ Some y
    → (j : ℕ) × (slice_get (cons_option o ys) j ≡ Some y)
suffix None ys k y e = (k, e)
suffix (Some z) ys k y e = (suc k, e)

is_or_after : {Y : Type 0} (o : Option Y) (ys : List Y) (k : ℕ) (y : Y)
    → slice_get (cons_option o ys) k ≡ Some y
    → (o ≡ Some y) ⊎ ((j : ℕ) × (slice_get ys j ≡ Some y))
is_or_after None ys k y e = inr (k, e)
is_or_after (Some z) ys zero y e = inl e
is_or_after (Some z) ys (suc k) y e = inr (k, e)

pub from_filter_map : {X Y : Type 0} (h : X → Option Y) (xs : List X) (k : ℕ) (y : Y)
    → slice_get (filter_map h xs) k ≡ Some y
    → (i : ℕ) × (x : X) × (slice_get xs i ≡ Some x) × (h x ≡ Some y)
from_filter_map h [] k y e = absurd (none-some y e)
from_filter_map h (x ∷ xs) k y e = elim (is_or_after (h x) (filter_map h xs) k y e) [
  | inl own ↦ (0, x, refl, own)
  | inr later ↦ let found = from_filter_map h xs later.0 y later.1 in
      (suc found.0, found.1, found.2, found.3)
]

pub in_filter_map : {X Y : Type 0} (h : X → Option Y) (xs : List X) (i : ℕ) (x : X) (y : Y)
    → slice_get xs i ≡ Some x → h x ≡ Some y
    → (k : ℕ) × (slice_get (filter_map h xs) k ≡ Some y)
in_filter_map h [] i x y e is = absurd (none-some x e)
in_filter_map h (first ∷ xs) zero x y e is =
    (0, ap (λ o. slice_get (cons_option o (filter_map h xs)) 0) (ap h (same_Some first x e) ∙ is))
in_filter_map h (first ∷ xs) (suc i) x y e is =
    let later = in_filter_map h xs i x y e is in
    suffix (h first) (filter_map h xs) later.0 y later.1
