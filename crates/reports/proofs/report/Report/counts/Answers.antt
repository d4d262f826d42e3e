use Rattle.std.proofs.Common.{count_by, length, arith}
use Rattle.std.proofs.lemmas.List.Sums.{count_by-le-length}
use Rattle.report_lines.specs.Lines.{is_error}
use Rattle.reports.specs.Tally.{is_delivered}
use Rattle.reports.proofs.Sizes.{counted_fits}
use Rattle.reports.proofs.report.Report.counts.Goals as goal

pub overflow_add-counts : goal.overflow_add-counts
overflow_add-counts c =
    omega (
      arith,
      counted_fits length (λ own. omega arith) c.args.self.now c.loop-caller.caller
          c.loop-caller.counts.calls c.lines_of-lines.result.now c.callers-caller-end.ensures.report
          (omega arith)
          c.loop-caller.invariant.calls c.lines_of-lines.ensures,
    )

pub overflow_add-counts-in-loop-caller : goal.overflow_add-counts-in-loop-caller
overflow_add-counts-in-loop-caller c =
    omega (
      arith,
      c.delivered_among.ensures,
      counted_fits (count_by is_delivered) (count_by-le-length is_delivered) c.args.self.now
          c.loop-caller.caller c.loop-caller.counts.delivered c.lines_of-lines.result.now
          c.callers-caller-end.ensures.report (omega arith) c.loop-caller.invariant.delivered
          c.lines_of-lines.ensures,
    )

pub overflow_add-counts-in-loop-caller-2 : goal.overflow_add-counts-in-loop-caller-2
overflow_add-counts-in-loop-caller-2 c =
    omega (
      arith,
      c.errors_among.ensures,
      counted_fits (count_by is_error) (count_by-le-length is_error) c.args.self.now
          c.loop-caller.caller c.loop-caller.counts.errors c.lines_of-lines.result.now
          c.callers-caller-end.ensures.report (omega arith) c.loop-caller.invariant.errors
          c.lines_of-lines.ensures,
    )
