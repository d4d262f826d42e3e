use Rattle.core_objects.proofs.LogPasses.{AreLogPasses}
use Rattle.core_objects.proofs.log_pass.log_passes_for.Given as goal

abbrev pub invariant-loop-caller : goal.invariant-loop-caller
invariant-loop-caller g l =
    AreLogPasses (g.S.SeqObject.spec l.object) l.n l.cap l.caller l.passes.items
