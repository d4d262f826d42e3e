use Rattle.std.proofs.Common.{List, length}
use Rattle.text_fields.specs.Faults.{GoesTo}
use Rattle.refutation_text.specs.Said.{StepSaid}
use Rattle.refutation_text.specs.RefutationRules.{InPairs, body_rules}
use Rattle.refutation_text.proofs.body.read_pairs.Given as goal

abbrev pub invariant-loop-entries : goal.invariant-loop-entries
invariant-loop-entries l = (steps : List StepSaid)
    → GoesTo body_rules (InPairs steps l.fn.first.items) l.fn.lines
    (InPairs steps l.entries.items) l.lines

abbrev pub decreases-loop-entries : goal.decreases-loop-entries
decreases-loop-entries l = length l.lines.bytes
