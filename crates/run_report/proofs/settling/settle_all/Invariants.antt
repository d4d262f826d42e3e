use Rattle.std.proofs.Common.{length}
use Rattle.run_report.specs.Places.{AreAllDown, AreInOrder}
use Rattle.run_report.specs.Starts.{allotments_by, course_of}
use Rattle.run_report.specs.Returns.{IsSpent, KeepsNothing}
use Rattle.run_report.proofs.settling.settle_all.Given as goal

abbrev pub invariant-loop-place : goal.invariant-loop-place
invariant-loop-place g l =
    record {
      workers : AreAllDown (length l.script.operations)
          (IsSpent g.P.Program.meaning l.shared.rows.now g.E.Ending.says g.E.Ending.object
          (g.A.Asks.fits l.shared.asks.now) g.A.Asks.count (course_of l.script
          (allotments_by l.pace l.script) (g.E.Ending.object l.ending))) l.workers.items;
      free : AreInOrder (λ _ w. KeepsNothing w) l.workers.items;
    }
