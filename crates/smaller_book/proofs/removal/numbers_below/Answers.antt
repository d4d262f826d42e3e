use Rattle.std.proofs.Common.{ℕ, List, [], ◌∷◌, ◌++◌, ◌∙◌, sym, ap, zero-add}
use Rattle.smaller_book.proofs.Building.{range_with_len-more}
use Rattle.smaller_book.proofs.removal.numbers_below.Goals as goal

pub loop-number-preserved : goal.loop-number-preserved
loop-number-preserved c =
    let n = c.loop-number.number in
    c.in_ok-push.ensures.items ∙ (ap (λ (xs : List ℕ). xs ++ n ∷ []) c.loop-number.invariant
    ∙ sym (range_with_len-more 0 n n (zero-add n)))
