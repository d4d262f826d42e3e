-- Which element is at a place of the list `xs ++ ys`.
use Rattle.std.proofs.Common.{◌≡◌, ℕ, zero, suc, ◌+◌, List, [], ◌∷◌, ◌++◌, ◌⊎◌, length, slice_get, Some, sym, ap, ◌∙◌, arith, inl, inr, zero-add}
use Rattle.std.proofs.lemmas.Option.{slice_get_within}
use Rattle.list_laws.proofs.Prefixes.{slice_get-append_within}

-- An element that `xs` has at place k is at place k of `xs ++ ys`.
pub slice_get-append_left : {X : Type 0} (xs ys : List X) (k : ℕ) (z : X) → slice_get xs k ≡ Some z
    → slice_get (xs ++ ys) k ≡ Some z
slice_get-append_left xs ys k z e = slice_get-append_within xs ys k (slice_get_within xs k z e) ∙ e

-- An element that `ys` has at place m is at place `length xs + m` of `xs ++ ys`.
pub slice_get-append_right : {X : Type 0} (xs ys : List X) (k m : ℕ) (z : X) → k ≡ length xs + m
    → slice_get ys m ≡ Some z → slice_get (xs ++ ys) k ≡ Some z
slice_get-append_right [] ys k m z at e = ap (slice_get ys) (at ∙ zero-add m) ∙ e
slice_get-append_right (x ∷ xs) ys zero m z at e = absurd (omega (arith, at))
slice_get-append_right (x ∷ xs) ys (suc k) m z at e =
    slice_get-append_right xs ys k m z (omega (arith, at)) e

-- An element at place k of `xs ++ ys` is at place k of `xs`, or at place m of `ys` where k is
-- `length xs + m`.
pub slice_get-append_cases : {X : Type 0} (xs ys : List X) (k : ℕ) (z : X)
    → slice_get (xs ++ ys) k ≡ Some z
    → (slice_get xs k ≡ Some z) ⊎ ((m : ℕ) × (k ≡ length xs + m) × (slice_get ys m ≡ Some z))
slice_get-append_cases [] ys k z e = inr (k, sym (zero-add k), e)
slice_get-append_cases (x ∷ xs) ys zero z e = inl e
slice_get-append_cases (x ∷ xs) ys (suc k) z e =
    elim (slice_get-append_cases xs ys k z e) [
      | inl old ↦ inl old
      | inr new ↦ inr (new.0, omega (arith, new.1), new.2)
    ]

-- Where each element of `ys` is at its place in `zs` too, each element of `xs ++ ys` is at its
-- place in `xs ++ zs` too.
pub slice_get-append_along : {X : Type 0} (xs ys zs : List X) (k : ℕ) (z : X)
    → ((m : ℕ) → slice_get ys m ≡ Some z → slice_get zs m ≡ Some z)
    → slice_get (xs ++ ys) k ≡ Some z
    → slice_get (xs ++ zs) k ≡ Some z
slice_get-append_along xs ys zs k z along e =
    elim (slice_get-append_cases xs ys k z e) [
      | inl old ↦ slice_get-append_left xs zs k z old
      | inr new ↦ slice_get-append_right xs zs k new.0 z new.1 (along new.0 new.2)
    ]
