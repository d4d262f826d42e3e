use Rattle.std.proofs.Common.{length}
use Rattle.run_report.specs.Places.{AreAllDown}
use Rattle.run_report.specs.Starts.{allotments_by, course_of}
use Rattle.run_report.specs.Returns.{IsSpent}
use Rattle.run_report.proofs.Settled.{AreFreeBelow}
use Rattle.run_report.proofs.settling.release_all.Given as goal

abbrev pub invariant-loop-place : goal.invariant-loop-place
invariant-loop-place g l =
    record {
      workers : AreAllDown (length l._script.operations)
          (IsSpent g.P.Program.meaning l.shared.rows.now g.E.Ending.says g.E.Ending.object
          (g.A.Asks.fits l.shared.asks.now) g.A.Asks.count (course_of l._script
          (allotments_by l.fn._pace l._script) (g.E.Ending.object l._ending))) l.workers.items;
      free : AreFreeBelow l.place l.workers.items;
    }
