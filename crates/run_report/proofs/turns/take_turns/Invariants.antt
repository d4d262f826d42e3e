use Rattle.std.proofs.Common.{◌≡◌, ◌+◌, length, take}
use Rattle.report_lines.specs.Allotments.{turns_of}
use Rattle.run_report.specs.Places.{AreDownFrom}
use Rattle.run_report.specs.Starts.{run_allotments, course_of}
use Rattle.run_report.specs.Turns.{IsTurned}
use Rattle.run_report.proofs.turns.take_turns.Given as goal

abbrev pub invariant-loop-turn : goal.invariant-loop-turn
invariant-loop-turn g l =
    record {
      all : length l.workers.items ≡ length l.script.operations;
      last : l.last + 1 ≡ length l.script.operations;
      turns : l.turn-items ≡ l.script.turns;
      workers : AreDownFrom (length l.script.operations)
          (λ i w. IsTurned g.P.Program.meaning l.shared.rows.now g.E.Ending.says g.E.Ending.object
          (g.A.Asks.fits l.shared.asks.now) g.A.Asks.count
          (course_of l.script (run_allotments l.script) (g.E.Ending.object l._ending)) i
          (turns_of (take l.turn-index l.turn-items) i) w) l.workers.items;
    }
