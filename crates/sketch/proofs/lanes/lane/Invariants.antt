use Rattle.std.proofs.Common.{◌≡◌, length}
use Rattle.book_base.specs.declared.call.Call.{Call}
use Rattle.book_base.specs.Book.{IsCall}
use Rattle.sketch.specs.declared.event.Event.TheVariants.{Invoke}
use Rattle.sketch.specs.Intervals.{StandsFrom}
use Rattle.sketch.proofs.LaneLemmas.{IsPrefixOf}
use Rattle.sketch.proofs.lanes.lane.Given as goal

abbrev pub invariant-loop-number : goal.invariant-loop-number
invariant-loop-number l = record {
  count : length l.lane.items ≡ l.number;
  prefix : IsPrefixOf l.book l.events l.caller l.lane.items;
  from : let call : Call = record { caller = l.caller; number = l.number } in
      IsCall l.book call → StandsFrom l.events l.from (Invoke call);
}
