use Rattle.std.proofs.Common.{ℕ, List, ◌∙◌, ap}
use Rattle.std.specs.List.{range_with_len}
use Rattle.book_base.specs.Book.{calls_of}
use Rattle.smaller_book.proofs.Building.{numbers_in-more}
use Rattle.smaller_book.proofs.composing.numbers_of_all.Goals as goal

pub loop-caller-preserved : goal.loop-caller-preserved
loop-caller-preserved c =
    let f : ℕ → List ℕ = λ i. range_with_len 0 (calls_of c.args.book.now i) in
    numbers_in-more f c.loop-caller.rows.items c.push.new.self.items c.in_ok-numbers_below.field-0
    c.loop-caller.caller
    c.loop-caller.invariant c.in_ok-push.ensures.items
    (c.in_ok-numbers_below.ensures ∙ ap (range_with_len 0) c.calls.ensures)
