use Rattle.std.proofs.Common.{List, ℕ, sym, subst, arith}
use Rattle.reports.specs.Findings.{IsInBook}
use Rattle.named_runs.proofs.Deliveries.{counts-more_callers, whole_cut, delivered_cut_is_in_the_book}
use Rattle.named_runs.proofs.delivered.delivered_cut.Goals as goal

pub loop-caller-preserved : goal.loop-caller-preserved
loop-caller-preserved c = record {
  wide = c.raise_by_lines.ensures.wide;
  counts = λ (i : ℕ).
      omega (
        arith,
        c.raise_by_lines.ensures.counts i,
        c.loop-caller.invariant.counts i,
        counts-more_callers c.args.report.now.lines c.loop-caller.caller i (omega arith),
      );
}

pub returns-clause-greatest : goal.returns-clause-greatest
returns-clause-greatest c =
    whole_cut c.args.report.now.lines c.loop-caller.caller c.loop-caller.greatest
    (omega arith) c.loop-caller.invariant.wide c.loop-caller.invariant.counts

pub returns-clause-fits : goal.returns-clause-fits
returns-clause-fits c =
    subst (λ (cut : List ℕ). IsInBook c.args.report.now.lines cut) (sym (returns-clause-greatest c))
    (delivered_cut_is_in_the_book c.args.report.now c.callers-caller-end.ensures.report)
