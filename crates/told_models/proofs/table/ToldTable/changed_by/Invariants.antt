use Rattle.std.proofs.Common.{◌≡◌, ℕ, ◌<◌, slice_get, Some}
use Rattle.told_models.specs.declared.table.Transition.{Transition}
use Rattle.told_models.proofs.table.ToldTable.changed_by.Given as goal

abbrev pub invariant-loop-k : goal.invariant-loop-k
invariant-loop-k l = (j state : ℕ) (transition : Transition) → j < l.k
    → slice_get l.self-inside.steps.entries j ≡ Some ((state, l.op), transition)
    → transition.reply ≡ l.reply → transition.next ≡ state
