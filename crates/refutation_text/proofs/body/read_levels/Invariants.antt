use Rattle.std.proofs.Common.{List, length}
use Rattle.text_fields.specs.Faults.{GoesTo}
use Rattle.level_refutations.specs.Said.{entries_said}
use Rattle.refutation_text.specs.Said.{StepSaid}
use Rattle.refutation_text.specs.RefutationRules.{InLevels, body_rules}
use Rattle.refutation_text.proofs.body.read_levels.Given as goal

abbrev pub invariant-loop-entries : goal.invariant-loop-entries
invariant-loop-entries l = (steps : List StepSaid)
    → GoesTo body_rules (InLevels steps (entries_said l.fn.first.items)) l.fn.lines
    (InLevels steps (entries_said l.entries.items)) l.lines

abbrev pub decreases-loop-entries : goal.decreases-loop-entries
decreases-loop-entries l = length l.lines.bytes
