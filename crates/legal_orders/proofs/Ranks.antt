-- Ranks: how many items before a place show something, which is the place of the item's own value
-- among all values that are shown.
use Rattle.std.proofs.Common.{◌≡◌, ℕ, zero, suc, ◌+◌, ◌<◌, ◌≤◌, ◌∙◌, List, [], ◌∷◌, filter_map, Option, Some, None, refl, ap, slice_get, arith}
use Rattle.std.specs.List.{cons_option}
use Rattle.std.proofs.lemmas.Option.{same_Some, none-some}

abbrev present : Option ℕ → ℕ
present None = 0
present (Some v) = 1

abbrev pub rank : {X : Type 0} → (X → Option ℕ) → List X → ℕ → ℕ
rank f xs zero = 0
rank f [] (suc k) = 0
rank f (x ∷ xs) (suc k) = present (f x) + rank f xs k

-- an option that has a value moves the items of the list after it by one place
cons_option-past : (o : Option ℕ) (vs : List ℕ) (i : ℕ)
    → slice_get (cons_option o vs) (present o + i) ≡ slice_get vs i
cons_option-past None vs i = let same : 0 + i ≡ i = omega arith in ap (slice_get vs) same
cons_option-past (Some v) vs i = let same : 1 + i ≡ suc i = omega arith in
    ap (slice_get (v ∷ vs)) same

-- the value that an item shows is at the item's rank among all values that are shown
pub shown_at_rank : {X : Type 0} (f : X → Option ℕ) (xs : List X) (k : ℕ) (x : X) (v : ℕ)
    → slice_get xs k ≡ Some x → f x ≡ Some v
    → slice_get (filter_map f xs) (rank f xs k) ≡ Some v
shown_at_rank f [] k x v e is = absurd (none-some x e)
shown_at_rank f (y ∷ ys) zero x v e is =
    ap (λ (o : Option ℕ). slice_get (cons_option o (filter_map f ys)) 0)
    (ap f (same_Some y x e) ∙ is)
shown_at_rank f (y ∷ ys) (suc k) x v e is =
    cons_option-past (f y) (filter_map f ys) (rank f ys k) ∙ shown_at_rank f ys k x v e is

-- the value at some place among all that are shown is shown by an item of which this place is the
-- rank
found_in_prefix : {X : Type 0} (f : X → Option ℕ) (y : X) (ys : List X) (i v : ℕ) (o : Option ℕ)
    → f y ≡ o → slice_get (cons_option o (filter_map f ys)) i ≡ Some v
    → ((i : ℕ) → slice_get (filter_map f ys) i ≡ Some v → (k : ℕ) × (x : X)
    × (slice_get ys k ≡ Some x) × (f x ≡ Some v) × (rank f ys k ≡ i))
    → (k : ℕ) × (x : X) × (slice_get (y ∷ ys) k ≡ Some x) × (f x ≡ Some v) × (rank f (y ∷ ys) k ≡ i)
found_in_prefix f y ys i v None e at rest =
    let found = rest i at in
    let none : present (f y) ≡ 0 = ap present e in
    (suc found.0, found.1, found.2, found.3, omega (arith, none, found.4))
found_in_prefix f y ys zero v (Some w) e at rest =
    (0, y, refl, e ∙ ap (λ (n : ℕ). Some n) (same_Some w v at), refl)
found_in_prefix f y ys (suc i) v (Some w) e at rest =
    let found = rest i at in
    let one : present (f y) ≡ 1 = ap present e in
    (suc found.0, found.1, found.2, found.3, omega (arith, one, found.4))

pub found_at_rank : {X : Type 0} (f : X → Option ℕ) (xs : List X) (i v : ℕ)
    → slice_get (filter_map f xs) i ≡ Some v
    → (k : ℕ) × (x : X) × (slice_get xs k ≡ Some x) × (f x ≡ Some v) × (rank f xs k ≡ i)
found_at_rank f [] i v e = absurd (none-some v e)
found_at_rank f (y ∷ ys) i v e =
    found_in_prefix f y ys i v (f y) refl e (λ j there. found_at_rank f ys j v there)

-- the rank of a later place is no lower
pub rank-grows : {X : Type 0} (f : X → Option ℕ) (xs : List X) (j k : ℕ) → j ≤ k
    → rank f xs j ≤ rank f xs k
rank-grows f xs zero k le = omega arith
rank-grows f xs (suc j) zero le = absurd (omega arith)
rank-grows f [] (suc j) (suc k) le = omega arith
rank-grows f (x ∷ xs) (suc j) (suc k) le = omega (arith, rank-grows f xs j k (omega arith))

-- the rank of an item that shows something is less than that of each later place
pub rank-more : {X : Type 0} (f : X → Option ℕ) (xs : List X) (j k : ℕ) (x : X) (v : ℕ)
    → slice_get xs j ≡ Some x → f x ≡ Some v → j < k → rank f xs j < rank f xs k
rank-more f [] j k x v e is lt = absurd (none-some x e)
rank-more f (y ∷ ys) j zero x v e is lt = absurd (omega arith)
rank-more f (y ∷ ys) zero (suc k) x v e is lt = let here : present (f y) ≡ 1 =
    ap present (ap f (same_Some y x e) ∙ is) in omega (arith, here)
rank-more f (y ∷ ys) (suc j) (suc k) x v e is lt =
    omega (arith, rank-more f ys j k x v e is (omega arith))
