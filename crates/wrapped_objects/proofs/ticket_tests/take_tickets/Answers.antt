use Rattle.std.proofs.Common.{ℕ, subst}
use Rattle.core_objects.specs.CoreObjects.{ArePassesFor}
use Rattle.core_objects.specs.OneWordPasses.{FitsOneWord}
use Rattle.wrapped_objects.proofs.ticket_tests.take_tickets.Goals as goal

pub core_fresh-status-requires-clause-passes : goal.core_fresh-status-requires-clause-passes
core_fresh-status-requires-clause-passes g c κs within =
    subst (λ (n : ℕ). ArePassesFor FitsOneWord n 256 c.in_ok-passes.passes.items)
    c.callers.ensures.count c.in_ok-passes.ensures
