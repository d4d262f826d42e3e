use Rattle.std.proofs.Common.{ℕ, ◌+◌}
use Rattle.told_models.specs.Search.{Continues, AreExpanded, AreNear}
use Rattle.told_models.proofs.table.ToldTable.expand.Given as goal

abbrev pub invariant-loop-k : goal.invariant-loop-k
invariant-loop-k l = record {
  continues : Continues l.initial.states.keys l.states.keys;
  expanded : AreExpanded l.self l.ops.keys l.states.keys l.first l.k;
  near : (most : ℕ) → AreNear l.self l.ops.keys most l.initial.states.keys
      → AreNear l.self l.ops.keys (most + 1) l.states.keys;
}
