use Rattle.std.proofs.Common.{◌+◌, ◌≤◌}
use Rattle.told_models.specs.Walking.{IsWalk}
use Rattle.told_models.specs.Weighing.{weight}
use Rattle.told_models.proofs.told_search.ToldSearch.go_on.Given as goal

abbrev pub invariant-loop-step : goal.invariant-loop-step
invariant-loop-step l = record {
  walk : IsWalk l.table l.book l.walk;
  lighter : weight l.book l.walk + l._step ≤ weight l.book l.initial.walk;
}
