use Rattle.std.proofs.Common.{◌≡◌, ◌++◌, map}
use Rattle.model_text.specs.Told.{step_line}
use Rattle.model_text.proofs.lines.put_steps.Given as goal

abbrev pub invariant-loop-state : goal.invariant-loop-state
invariant-loop-state l = l.lines.items ++ map step_line l.state-iterator
    ≡ l.initial.lines.items ++ map step_line l.steps.entries
