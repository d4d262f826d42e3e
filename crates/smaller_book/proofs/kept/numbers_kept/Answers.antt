use Rattle.std.proofs.Common.{◌≡◌, length, subst, arith}
use Rattle.smaller_book.specs.Numbers.{numbers_in}
use Rattle.smaller_book.proofs.KeptNumbers.{RowsAreNumbers, rows_more, rows_are_numbers}
use Rattle.smaller_book.proofs.kept.numbers_kept.Goals as goal

pub loop-caller-preserved : goal.loop-caller-preserved
loop-caller-preserved c =
    rows_more c.args.book.now c.loop-caller.caller c.loop-caller.rows.items
    c.push.new.self.items c.in_ok-numbers_of_caller.field-0
    c.loop-caller.invariant c.in_ok-push.ensures.items c.in_ok-numbers_of_caller.ensures

pub returns : goal.returns
returns c =
    let book = c.args.book.now in
    let all : c.loop-caller.caller ≡ length book =
    omega (arith, c.callers-caller-end.ensures.count) in
    rows_are_numbers book (numbers_in c.loop-caller.rows.items)
    (subst (λ n. RowsAreNumbers book n (numbers_in c.loop-caller.rows.items)) all
    c.loop-caller.invariant)
