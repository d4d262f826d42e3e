-- Ordered lists, in which each element comes before all that stand after it.
use Rattle.std.proofs.Common.{◌≡◌, ℕ, zero, suc, ◌+◌, ◌<◌, ◌⊎◌, ◌∙◌, List, [], ◌∷◌, ◌++◌, length, Some, refl, sym, ap, subst, inl, inr, slice_get, arith}
use Rattle.std.proofs.lemmas.Option.{same_Some, none-some, slice_get_within}
use Rattle.list_laws.proofs.Places.{slice_get-push_old, slice_get-push_last, slice_get-push_cases}

-- a list has this element
abbrev pub IsMember : {X : Type 0} → List X → X → Type 0
IsMember xs x = (k : ℕ) × (slice_get xs k ≡ Some x)

-- a list is ordered: each element comes before all that stand after it
abbrev pub IsOrderedBy : {X : Type 0} → (X → X → Type 0) → List X → Type 0
IsOrderedBy {X} before xs = (j k : ℕ) (x y : X) → slice_get xs j ≡ Some x → slice_get xs k ≡ Some y
    → j < k → before x y

-- an element of a list with one more element was in the list before, or is the new one
pub IsMember-push_cases : {X : Type 0} (xs : List X) (y x : X) → IsMember (xs ++ y ∷ []) x
    → IsMember xs x ⊎ (x ≡ y)
IsMember-push_cases xs y x (k, at) =
    elim (slice_get-push_cases xs y k x at) [
      | inl old ↦ inl (k, old)
      | inr new ↦ inr new.1
    ]

pub IsMember-push_old : {X : Type 0} (xs : List X) (y x : X) → IsMember xs x
    → IsMember (xs ++ y ∷ []) x
IsMember-push_old xs y x (k, at) = (k, slice_get-push_old xs y k x at)

pub IsMember-push_new : {X : Type 0} (xs : List X) (y : X) → IsMember (xs ++ y ∷ []) y
IsMember-push_new xs y = (length xs, slice_get-push_last xs y)

-- an ordered list stays ordered with one more element that all others come before
pub IsOrderedBy-push : {X : Type 0} (before : X → X → Type 0) (xs : List X) (y : X)
    → IsOrderedBy before xs → ((x : X) → IsMember xs x → before x y)
    → IsOrderedBy before (xs ++ y ∷ [])
IsOrderedBy-push before xs y ordered all j k a b at bt less =
    elim (slice_get-push_cases xs y k b bt) [
      | inl old ↦ elim (slice_get-push_cases xs y j a at) [
        | inl first ↦ ordered j k a b first old less
        | inr last ↦ let there = slice_get_within xs k b old in absurd (omega (arith, last.0))
      ]
      | inr new ↦ elim (slice_get-push_cases xs y j a at) [
        | inl first ↦ subst (before a) (sym new.1) (all a (j, first))
        | inr last ↦ absurd (omega (arith, last.0, new.0))
      ]
    ]

-- two elements never come before one another
abbrev pub IsAsymmetricIn : {X : Type 0} → (X → X → Type 0) → List X → Type 0
IsAsymmetricIn {X} before xs = (x y : X) → IsMember xs x → IsMember xs y → before x y
    → before y x → ⊥

-- the first elements of two ordered lists with the same elements are equal
same_first : {X : Type 0} (before : X → X → Type 0) (x y : X) (xs ys : List X) (j k : ℕ)
    → IsOrderedBy before (x ∷ xs) → IsOrderedBy before (y ∷ ys)
    → IsAsymmetricIn before (x ∷ xs) → slice_get (x ∷ xs) j ≡ Some y
    → slice_get (y ∷ ys) k ≡ Some x → x ≡ y
same_first before x y xs ys zero k a b apart at bt = same_Some x y at
same_first before x y xs ys (suc j) zero a b apart at bt = sym (same_Some y x bt)
same_first before x y xs ys (suc j) (suc k) a b apart at bt =
    absurd (apart x y (0, refl) (suc j, at) (a 0 (suc j) x y refl at (omega arith))
    (b 0 (suc k) y x refl bt (omega arith)))

-- an element after the first one of an ordered list is after the first one of each list that has it
-- and begins with the same first one
same_rest : {X : Type 0} (before : X → X → Type 0) (x y : X) (xs ys : List X) (z : X) (j k : ℕ)
    → IsOrderedBy before (x ∷ xs)
    → IsAsymmetricIn before (x ∷ xs) → x ≡ y → slice_get xs j ≡ Some z
    → slice_get (y ∷ ys) k ≡ Some z → IsMember ys z
same_rest before x y xs ys z j zero a apart same at bt =
    let one : z ≡ x = sym (same ∙ same_Some y z bt) in
    let self : before x x = subst (before x) one (a 0 (suc j) x z refl at (omega arith)) in
    absurd (apart x x (0, refl) (0, refl) self self)
same_rest before x y xs ys z j (suc k) a apart same at bt = (k, bt)

-- Two ordered lists with the same elements are equal, where no two elements come before one
-- another.
pub IsOrderedBy-same : {X : Type 0} (before : X → X → Type 0) (xs ys : List X)
    → IsOrderedBy before xs → IsOrderedBy before ys
    → IsAsymmetricIn before xs → IsAsymmetricIn before ys
    → ((x : X) → IsMember xs x → IsMember ys x)
    → ((y : X) → IsMember ys y → IsMember xs y) → xs ≡ ys
IsOrderedBy-same before [] [] a b apart bpart forth back = refl
IsOrderedBy-same before [] (y ∷ ys) a b apart bpart forth back = let there = back y (0, refl) in
    absurd (none-some y there.1)
IsOrderedBy-same before (x ∷ xs) [] a b apart bpart forth back = let there = forth x (0, refl) in
    absurd (none-some x there.1)
IsOrderedBy-same {X} before (x ∷ xs) (y ∷ ys) a b apart bpart forth back =
    let y_in = back y (0, refl) in
    let x_in = forth x (0, refl) in
    let same : x ≡ y = same_first before x y xs ys y_in.0 x_in.0 a b apart y_in.1 x_in.1 in
    let rest : xs ≡ ys = IsOrderedBy-same before xs ys
    (λ j k v w at bt less. a (suc j) (suc k) v w at bt (omega arith))
    (λ j k v w at bt less. b (suc j) (suc k) v w at bt (omega arith))
    (λ v w at bt. apart v w (suc at.0, at.1) (suc bt.0, bt.1))
    (λ v w at bt. bpart v w (suc at.0, at.1) (suc bt.0, bt.1))
    (λ z at. let there = forth z (suc at.0, at.1) in
    same_rest before x y xs ys z at.0 there.0 a apart same at.1 there.1)
    (λ z at. let there = back z (suc at.0, at.1) in
    same_rest before y x ys xs z at.0 there.0 b bpart (sym same) at.1 there.1) in
    cc
