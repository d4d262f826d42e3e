use Rattle.smaller_book.specs.Keys.{keys_from_to, row_without}
use Rattle.smaller_book.proofs.Building.{numbers_in-more}
use Rattle.smaller_book.proofs.keyless.numbers_without.Goals as goal

pub loop-caller-preserved : goal.loop-caller-preserved
loop-caller-preserved c =
    numbers_in-more
    (row_without c.args.kind (keys_from_to c.args.first c.args.last) c.args.book.now)
    c.loop-caller.rows.items c.push.new.self.items c.in_ok-numbers_of_caller.field-0
    c.loop-caller.caller c.loop-caller.invariant c.in_ok-push.ensures.items
    c.in_ok-numbers_of_caller.ensures
