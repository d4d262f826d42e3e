use Rattle.std.proofs.Common.{◌≡◌, ℕ, ◌+◌, ◌<◌, slice_get, Contains, Some}
use Rattle.told_models.specs.Closed.{IsNear}
use Rattle.told_models.specs.Search.{Continues, LeadsInto, AreNear}
use Rattle.told_models.proofs.table.ToldTable.expand_at.Given as goal

abbrev pub invariant-loop-k : goal.invariant-loop-k
invariant-loop-k l = record {
  continues : Continues l.initial.states.keys l.states.keys;
  expanded : (j op : ℕ) → j < l.k → slice_get l.ops.keys j ≡ Some op
      → LeadsInto l.self l.states.keys l.state op;
  near : (most : ℕ) → IsNear l.self (Contains l.ops.keys) most l.state
      → AreNear l.self l.ops.keys (most + 1) l.initial.states.keys
      → AreNear l.self l.ops.keys (most + 1) l.states.keys;
}
