use Rattle.core_objects.proofs.Passes.{AreDealt}
use Rattle.core_objects.proofs.one_word_pass.OneWordPass.for_callers.Given as goal

abbrev pub invariant-loop-caller : goal.invariant-loop-caller
invariant-loop-caller l = AreDealt l.n l.cap l.caller l.passes.items
