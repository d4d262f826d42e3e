use Rattle.std.proofs.Common.{◌≡◌, ◌≤◌, ◌+◌, vec_len, vec_capacity, length}
use Rattle.row_table.specs.Callers.{IsBenchOf}
use Rattle.run_report.specs.Places.{AreDownFrom, AreInOrder}
use Rattle.run_report.specs.Starts.{run_allotments, course_of, HoldsBelow, IsCapacityFor, IsFreshPass, IsStart}
use Rattle.run_report.proofs.start.start_all.Given as goal

abbrev pub invariant-loop-left : goal.invariant-loop-left
invariant-loop-left g l =
    record {
      few : l.left ≤ length l.script.operations;
      bench : IsBenchOf g.P.Program.meaning l.shared.rows.now l.bench;
      held : HoldsBelow (length l.script.operations) l.left l.initial.bench l.bench;
      all_passes : vec_len l.passes ≡ l.left;
      passes_capacity : vec_capacity l.passes ≡ vec_capacity l.initial.passes;
      passes : AreInOrder (IsFreshPass l.shared.rows.now
          (g.A.Asks.fits l.shared.asks.now) g.A.Asks.count l.script.operations) l.passes.items;
      all_capacities : vec_len l.lines ≡ l.left;
      lines_capacity : length l.script.operations ≤ vec_capacity l.lines;
      rooms : AreInOrder (IsCapacityFor l.script.operations) l.lines.items;
      workers_count : vec_len l.workers + l.left ≡ length l.script.operations;
      workers_capacity : length l.script.operations ≤ vec_capacity l.workers;
      workers : AreDownFrom (length l.script.operations)
          (IsStart g.P.Program.meaning l.shared.rows.now g.E.Ending.says g.E.Ending.object
          (g.A.Asks.fits l.shared.asks.now) g.A.Asks.count
          (course_of l.script (run_allotments l.script) (g.E.Ending.object l.ending)))
          l.workers.items;
    }

abbrev pub decreases-loop-left : goal.decreases-loop-left
decreases-loop-left g l = l.left
