use Rattle.std.proofs.Common.{◌≡◌, ◌+◌, ◌≤◌, length, ℕ, List}
use Rattle.row_table.specs.Callers.{IsStill, local_with, stance_of}
use Rattle.collect_scan.specs.Scanned.{local_stood, most_words}
use Rattle.collect_scan.specs.Turns.{opening_at, stance_scanned}
use Rattle.collect_scan.proofs.Turning.{words_left}
use Rattle.collect_scan.proofs.whole.scan.Given as goal

abbrev pub invariant-loop-cut : goal.invariant-loop-cut
invariant-loop-cut g l =
    record {
      still : IsStill g.P.Program.meaning l.rows l.fn.caller l.caller;
      stance : stance_of l.caller ≡ stance_scanned (stance_of l.fn.caller) l.region;
      taken : List ℕ;
      stood : local_with l.caller ≡ local_stood l.rows.callers (local_with l.fn.caller) l.region
          (opening_at l.fn.caller l.region) taken;
      few : length taken ≤ most_words l.rows.callers;
      ticks : l.steps ≡ l.fn.steps + length taken;
    }

abbrev pub decreases-loop-cut : goal.decreases-loop-cut
decreases-loop-cut g l = words_left l.rows.callers (local_with l.caller).scan
