use Rattle.std.proofs.Common.{[], ◌∷◌, arith}
use Rattle.book_base.proofs.ReachingLemmas.{capacity-by_steps}
use Rattle.wrapped_objects.specs.Tickets.{after_call}
use Rattle.wrapped_objects.specs.TicketLaws.{length-after_call}
use Rattle.wrapped_objects.proofs.ticket_dispenser.TicketDispenserSeqObject.capacity.Goals as goal

pub returns-clause-fits : goal.returns-clause-fits
returns-clause-fits c =
    let first = c.args.self.now.first in
    capacity-by_steps (record { init = 0 ∷ []; next = after_call first }) (length-after_call first)
    c.args.operations _ (omega arith)
