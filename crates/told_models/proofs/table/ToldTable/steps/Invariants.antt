use Rattle.std.proofs.Common.{◌≡◌, ℕ, ◌<◌, slice_get, Some}
use Rattle.std.specs.BTreeMap.{get}
use Rattle.told_models.specs.declared.table.Transition.{Transition}
use Rattle.told_models.specs.Table.{pair_order, told_step, HasToldStep}
use Rattle.told_models.proofs.table.ToldTable.steps.Given as goal

abbrev pub invariant-loop-k : goal.invariant-loop-k
invariant-loop-k l = ((state op : ℕ) → HasToldStep l.self l.steps state op)
    × ((j state op : ℕ) (transition : Transition) → j < l.k
    → slice_get l.self.steps j ≡ Some ((state, op), transition)
    → get pair_order l.steps (state, op) ≡ told_step l.self state op)
