use Rattle.smaller_book.specs.Minimal.{row_but}
use Rattle.smaller_book.proofs.Building.{numbers_in-more}
use Rattle.smaller_book.proofs.removal.all_numbers_but.Goals as goal

pub loop-caller-preserved : goal.loop-caller-preserved
loop-caller-preserved c =
    numbers_in-more (row_but c.args.book.now c.args.call) c.loop-caller.rows.items
    c.push.new.self.items c.in_ok-numbers_but.field-0 c.loop-caller.caller
    c.loop-caller.invariant c.in_ok-push.ensures.items c.in_ok-numbers_but.ensures
