use Rattle.watch_core.proofs.Lookups.{CopiesFirst}
use Rattle.watch_core.proofs.parts.copy_of.Given as goal

abbrev pub invariant-loop-at : goal.invariant-loop-at
invariant-loop-at l = CopiesFirst l.parts.entries l.copy.entries l.at
