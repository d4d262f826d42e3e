-- An item that replaces another one.
use Rattle.std.proofs.Common.{◌≡◌, ℕ, zero, suc, ◌<◌, List, [], ◌∷◌, length, set, insert, remove, ap, refl, arith}

-- to remove an item and insert another one at its place is to set the item there
pub insert-remove : {X : Type 0} (xs : List X) (i : ℕ) (x : X) → i < length xs
    → insert (remove xs i) i x ≡ set xs i x
insert-remove [] i x inside = absurd (omega arith)
insert-remove (y ∷ ys) zero x inside = refl
insert-remove (y ∷ ys) (suc i) x inside = ap (λ zs. y ∷ zs) (insert-remove ys i x (omega arith))
