use Rattle.std.proofs.Common.{List, subst}
use Rattle.report_lines.specs.declared.line.Line.{Line}
use Rattle.reports.specs.Findings.{HasFirstErrorIn}
use Rattle.reports.proofs.Errors.{first_of_all, first_is_in_book}
use Rattle.reports.proofs.report.Report.first_error.Goals as goal

pub returns-in-Some-clause-found : goal.returns-in-Some-clause-found
returns-in-Some-clause-found c =
    first_of_all c.args.self.now.lines c.loop-caller.caller c.in-Some.cut c.loop-caller.invariant
    (subst (λ (own : List Line). HasFirstErrorIn own c.in-Some.cut) c.lines_of.ensures
    c.in-Some.ensures.found)

pub returns-in-Some-clause-fits : goal.returns-in-Some-clause-fits
returns-in-Some-clause-fits c = first_is_in_book c.args.self.now c.in-Some.cut
    c.callers-caller-end.ensures.report (returns-in-Some-clause-found c)
