use Rattle.std.proofs.Common.{◌≡◌, ◌≤◌, ◌+◌, vec_len, vec_capacity, length}
use Rattle.row_table.specs.Callers.{IsBenchOf}
use Rattle.reports.specs.ReportLayout.{lines_in}
use Rattle.run_report.specs.Places.{AreDownFrom}
use Rattle.run_report.specs.Starts.{allotments_by, course_of, AreAlikeFrom}
use Rattle.run_report.specs.Returns.{IsSpent, AreBack}
use Rattle.run_report.proofs.end.end_all.Given as goal

abbrev pub invariant-loop-worker : goal.invariant-loop-worker
invariant-loop-worker g l =
    record {
      workers : AreDownFrom (length l.script.operations)
          (IsSpent g.P.Program.meaning l.shared.rows.now g.E.Ending.says g.E.Ending.object
          (g.A.Asks.fits l.shared.asks.now) g.A.Asks.count (course_of l.script
          (allotments_by l.pace l.script) (g.E.Ending.object l.ending))) l.workers.items;
      bench : IsBenchOf g.P.Program.meaning l.shared.rows.now l.bench;
      count : vec_len l.workers + vec_len l.passes ≡ length l.script.operations;
      lines_count : vec_len l.lines ≡ vec_len l.passes;
      passes_capacity : vec_capacity l.initial.passes ≤ vec_capacity l.passes;
      lines_capacity : length l.script.operations ≤ vec_capacity l.lines;
      others : AreAlikeFrom (length l.script.operations) l.initial.bench l.bench;
      back : AreBack g.P.Program.meaning l.shared.rows.now g.E.Ending.says
          (g.A.Asks.fits l.shared.asks.now) g.A.Asks.count (length l.script.operations)
          (vec_len l.passes)
          (course_of l.script (allotments_by l.pace l.script) (g.E.Ending.object l.ending)) l.bench
          l.passes.items (lines_in l.lines.items) l.wants_memory;
    }

abbrev pub decreases-loop-worker : goal.decreases-loop-worker
decreases-loop-worker g l = vec_len l.workers
