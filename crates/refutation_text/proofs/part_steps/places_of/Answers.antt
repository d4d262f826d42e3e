use Rattle.smaller_book.specs.Numbers.{numbers_in}
use Rattle.smaller_book.proofs.Building.{numbers_in-more}
use Rattle.refutation_text.specs.Steps.{row_listed}
use Rattle.refutation_text.proofs.part_steps.places_of.Goals as goal

pub loop-caller-preserved : goal.loop-caller-preserved
loop-caller-preserved c =
    numbers_in-more
    (row_listed (numbers_in c.args.left.now.numbers.items) c.args.calls.now c.args.left.now.book)
    c.loop-caller.rows.items c.push.new.self.items c.in_ok-row_of.field-0
    c.loop-caller.caller c.loop-caller.invariant c.in_ok-push.ensures.items
    c.in_ok-row_of.ensures
