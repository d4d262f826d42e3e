use Rattle.std.proofs.Common.{ℕ, List, length, get_or, sym, ap, ◌∙◌, arith}
use Rattle.book_base.specs.declared.call.Call.{Call}
use Rattle.report_lines.specs.declared.line.Line.{Line}
use Rattle.report_lines.specs.declared.line.LineEnd.{LineEnd}
use Rattle.report_lines.specs.Lines.{lines_at}
use Rattle.named_runs.proofs.Deliveries.{seen_by_delivered, counts-more_lines, count_of, count_of_undelivered}
use Rattle.named_runs.proofs.delivered.raise_by_lines.Goals as goal
use Rattle.named_runs.proofs.delivered.raise_by_lines.Goals.{in-Delivered, in_default}

pub raise-requires : goal.raise-requires
raise-requires c =
    let call : Call = record { caller = c.args.caller; number = c.loop-number.number } in
    c.requires.report.seen.wide call c.in-Delivered.seen
    (seen_by_delivered c.args.report.now.lines call c.line-line.result.now c.in-Delivered.field-0
    c.in-Delivered.seen c.line-line.ensures c.in-Delivered.is)
    ∙ sym c.loop-number.invariant.wide

pub loop-number-preserved : goal.loop-number-preserved
loop-number-preserved c =
    let own : List Line = lines_at c.args.report.now.lines c.args.caller in
    elim c.match-line.branch [
      | in-Delivered w ↦ record {
        wide = ap (λ (cut : List ℕ). length cut) w.greatest-is ∙ w.raise.ensures.wide
            ∙ c.loop-number.invariant.wide;
        counts = λ (i : ℕ).
            omega (
              arith,
              ap (λ (cut : List ℕ). get_or cut i 0) w.greatest-is,
              w.raise.ensures.counts i,
              c.loop-number.invariant.counts i,
              counts-more_lines own c.loop-number.number c.line-line.result.now i
                  c.line-line.ensures,
              ap (λ (end : LineEnd). count_of end i) w.in-Delivered.is,
            );
      }
      | in_default w ↦ record {
        wide = ap (λ (cut : List ℕ). length cut) w.greatest-is ∙ c.loop-number.invariant.wide;
        counts = λ (i : ℕ).
            omega (
              arith,
              ap (λ (cut : List ℕ). get_or cut i 0) w.greatest-is,
              c.loop-number.invariant.counts i,
              counts-more_lines own c.loop-number.number c.line-line.result.now i
                  c.line-line.ensures,
              count_of_undelivered c.line-line.result.now.end w.in_default.not-Delivered i,
            );
      }
    ]
