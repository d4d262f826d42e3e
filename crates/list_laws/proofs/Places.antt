-- Items at places of lists and of their prefixes.
use Rattle.std.proofs.Common.{◌≡◌, ℕ, zero, suc, ◌⊎◌, List, [], ◌∷◌, ◌++◌, length, take, get_or, replicate, Some, refl, ap, inl, inr, slice_get}

-- an item of a list is at the same place after one more item is added at the end
pub slice_get-push_old : {X : Type 0} (xs : List X) (y : X) (k : ℕ) (z : X)
    → slice_get xs k ≡ Some z → slice_get (xs ++ y ∷ []) k ≡ Some z
slice_get-push_old [] y k z e = absurd cc
slice_get-push_old (x ∷ xs) y zero z e = e
slice_get-push_old (x ∷ xs) y (suc k) z e = slice_get-push_old xs y k z e

-- the added item is at the last place
pub slice_get-push_last : {X : Type 0} (xs : List X) (y : X)
    → slice_get (xs ++ y ∷ []) (length xs) ≡ Some y
slice_get-push_last [] y = refl
slice_get-push_last (x ∷ xs) y = slice_get-push_last xs y

-- an item of a list with one more at the end was there before, or is the new one
pub slice_get-push_cases : {X : Type 0} (xs : List X) (y : X) (k : ℕ) (z : X)
    → slice_get (xs ++ y ∷ []) k ≡ Some z → (slice_get xs k ≡ Some z) ⊎ ((k ≡ length xs) × (z ≡ y))
slice_get-push_cases [] y zero z e = inr (refl, cc)
slice_get-push_cases [] y (suc k) z e = absurd cc
slice_get-push_cases (x ∷ xs) y zero z e = inl e
slice_get-push_cases (x ∷ xs) y (suc k) z e =
    elim (slice_get-push_cases xs y k z e) [
      | inl old ↦ inl old
      | inr new ↦ inr (ap suc new.0, new.1)
    ]

-- an item of a prefix is at the same place in the list
pub slice_get-take : {X : Type 0} (n : ℕ) (xs : List X) (k : ℕ) (z : X)
    → slice_get (take n xs) k ≡ Some z → slice_get xs k ≡ Some z
slice_get-take zero xs k z e = absurd cc
slice_get-take (suc n) [] k z e = absurd cc
slice_get-take (suc n) (x ∷ xs) zero z e = e
slice_get-take (suc n) (x ∷ xs) (suc k) z e = slice_get-take n xs k z e

-- a list of nothing but the default has the default at each place
pub get_or-replicate_default : {X : Type 0} (n i : ℕ) (d : X) → get_or (replicate n d) i d ≡ d
get_or-replicate_default zero i d = refl
get_or-replicate_default (suc n) zero d = refl
get_or-replicate_default (suc n) (suc i) d = get_or-replicate_default n i d

-- of two prefixes of one list one is a prefix of the other
pub append_cases : {X : Type 0} (xs ys us vs : List X) → xs ++ us ≡ ys ++ vs
    → ((zs : List X) × (ys ≡ xs ++ zs)) ⊎ ((zs : List X) × (xs ≡ ys ++ zs))
append_cases [] ys us vs h = inl (ys, refl)
append_cases (x ∷ xs) [] us vs h = inr (x ∷ xs, refl)
append_cases (x ∷ xs) (y ∷ ys) us vs h =
    let head : x ≡ y = cc in
    let rest : xs ++ us ≡ ys ++ vs = cc in
    elim (append_cases xs ys us vs rest) [
      | inl longer ↦ inl (longer.0, cc (head, longer.1))
      | inr shorter ↦ inr (shorter.0, cc (head, shorter.1))
    ]
