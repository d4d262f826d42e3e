use Rattle.search_hints.proofs.OneOpen.{HasOneOpenBelow}
use Rattle.search_hints.proofs.one_open.has_one_open.Given as goal

abbrev pub invariant-loop-caller : goal.invariant-loop-caller
invariant-loop-caller l = HasOneOpenBelow l.book l.caller
