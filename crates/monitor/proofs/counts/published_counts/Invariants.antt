use Rattle.std.proofs.Common.{◌≡◌, ℕ, ◌+◌, ◌<◌, ◌≤◌, length, get_or, slice_index}
use Rattle.report_lines.specs.Phases.{published_by}
use Rattle.run_report.specs.Starts.{run_allotments}
use Rattle.monitor.proofs.counts.published_counts.Given as goal

abbrev pub invariant-loop-i : goal.invariant-loop-i
invariant-loop-i l = record {
  wide : length l.counts ≡ length l.script.operations + 2;
  done : (k : ℕ) → k < l.i
      → get_or l.counts k 0 ≡ published_by (slice_index (run_allotments l.script) k);
  rest : (k : ℕ) → l.i ≤ k → get_or l.counts k 0 ≡ 0;
}
