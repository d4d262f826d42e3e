use Rattle.smaller_book.specs.Keys.{row_without}
use Rattle.smaller_book.proofs.Building.{numbers_in-more}
use Rattle.refutation_text.specs.Steps.{keys_gone}
use Rattle.refutation_text.proofs.part_steps.places_without.Goals as goal

pub loop-caller-preserved : goal.loop-caller-preserved
loop-caller-preserved c =
    numbers_in-more
    (row_without c.args.kind (keys_gone c.args.these c.args.keys.now) c.args.book.now)
    c.loop-caller.rows.items c.push.new.self.items c.in_ok-row_of_places.field-0
    c.loop-caller.caller c.loop-caller.invariant c.in_ok-push.ensures.items
    c.in_ok-row_of_places.ensures
