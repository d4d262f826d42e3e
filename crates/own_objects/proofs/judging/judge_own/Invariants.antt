use Rattle.std.proofs.Common.{◌+◌}
use Rattle.told_models.specs.Searching.{IsSearch}
use Rattle.told_models.specs.Weighing.{weight_of}
use Rattle.own_objects.specs.Told.{IsToldOf}
use Rattle.own_objects.proofs.Ending.{left_to_tell}
use Rattle.own_objects.proofs.judging.judge_own.Given as goal

abbrev pub invariant-asking : goal.invariant-asking
invariant-asking g l = record {
  told : IsToldOf g.O.OwnObject.value (g.O.OwnObject.initial l.object)
      (g.O.OwnObject.next l.object) l.states.keys l.table;
  search : IsSearch l.table l.book l.search;
}

abbrev pub decreases-asking : goal.decreases-asking
decreases-asking g l = weight_of l.book l.search + left_to_tell l.book l.table
