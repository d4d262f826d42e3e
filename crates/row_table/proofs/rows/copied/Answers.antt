use Rattle.std.proofs.Common.{arith, ℕ, suc, zero, List, take, ◌+◌, ◌≡◌, ap, sym, ◌∙◌, ◌++◌, ◌∷◌, []}
use Rattle.std.specs.Slots.{slots_items}
use mathlib.Core.Option.{some, some-injective, some-ne-none}
use lib.ListN.{get_elem?}
use Rattle.row_table.proofs.rows.copied.Goals as goal

one_more : {A : Type 0} (xs : List A) (i : ℕ) (x : A) → get_elem? xs i ≡ some x
    → take (suc i) xs ≡ take i xs ++ x ∷ []
one_more [] i x e = absurd (some-ne-none x (sym e))
one_more (y ∷ xs) zero x e = ap (λ z. z ∷ []) (some-injective y x e)
one_more (y ∷ xs) (suc i) x e = ap (λ zs. y ∷ zs) (one_more xs i x e)

pub loop-i-preserved : goal.loop-i-preserved
loop-i-preserved c =
    let up : suc c.loop-i.i ≡ c.loop-i.i + 1 = omega arith in
    c.in_ok-push.ensures.items
    ∙ ap (λ v. v ++ c.word.result ∷ []) c.loop-i.invariant
    ∙ sym (one_more _ c.loop-i.i _ c.word.ensures)
    ∙ ap (λ (k : ℕ). take k (slots_items c.args.closed.now.words)) up
