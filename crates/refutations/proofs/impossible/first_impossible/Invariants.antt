use Rattle.std.proofs.Common.{◌<◌}
use Rattle.book_base.specs.declared.call.Call.{Call}
use Rattle.seq_objects.specs.Objects.{kind_spec}
use Rattle.refutations.specs.Impossible.{IsImpossible}
use Rattle.refutations.proofs.impossible.first_impossible.Given as goal

abbrev pub invariant-loop-caller : goal.invariant-loop-caller
invariant-loop-caller l = (call : Call) → call.caller < l.caller
    → IsImpossible (kind_spec l.kind) l.book call → ⊥
