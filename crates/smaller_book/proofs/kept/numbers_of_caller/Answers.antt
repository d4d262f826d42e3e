use Rattle.std.proofs.Common.{rules, ◌≡◌, [], sym, subst}
use Rattle.smaller_book.specs.Numbers.{AreNumbersBelow}
use Rattle.smaller_book.proofs.KeptNumbers.{none_below, push_below_if}
use Rattle.smaller_book.proofs.kept.numbers_of_caller.Goals as goal

pub loop-number-init : goal.loop-number-init
loop-number-init c =
    let none : c.new-numbers.result.items ≡ [] = search rules in
    subst (AreNumbersBelow 0) (sym none) (none_below 0)

pub loop-number-preserved : goal.loop-number-preserved
loop-number-preserved c =
    push_below_if c.loop-number.number c.loop-number.numbers.items _ c.keeps-stays.result
    c.loop-number.invariant c.in_ok-push_if.ensures
