use Rattle.std.proofs.Common.{◌∙◌, sym, subst, ap, List, arith}
use Rattle.std.specs.List.{All}
use Rattle.seq_objects.specs.declared.kind.Kind.{Kind}
use Rattle.reports.specs.Findings.{IsReport}
use Rattle.run_report.specs.Starts.{allotments_by}
use Rattle.reports.specs.declared.report.Own.{Own}
use Rattle.reports.specs.ReportLayout.{findings_in}
use Rattle.run_report.specs.Replies.{HasWord}
use Rattle.run_report.proofs.Reported.{reported, fits}
use Rattle.run_report.proofs.report.report_of.Goals as goal

pub of_lines-requires : goal.of_lines-requires
of_lines-requires g c =
    subst (λ (k : Kind). IsReport (findings_in k c.args.lines.items)) (sym c.kind.ensures)
    (fits _ _ _ c.args.script.now _ _ _ _ _ _ c.callers-callers.ensures.plan c.requires.callers
    c.requires.bench c.requires.lines (omega (arith, c.requires.all_lines))
    (subst (λ (ls : List Own). All (λ own. All (λ line. HasWord line.end) own.lines.items) ls)
    c.deref.ensures.value c.read_replies.ensures))

pub returns : goal.returns
returns g c =
    reported _ _ _ c.args.script.now (allotments_by c.args._pace c.args.script.now) _ _ _ _ _
    c.callers-callers.ensures.plan c.requires.callers c.requires.bench c.requires.lines
    (omega (arith, c.requires.all_lines)) c.of_lines.result
    (c.of_lines.ensures ∙ ap (λ (k : Kind). findings_in k c.args.lines.items) c.kind.ensures)
    (omega (arith, c.requires.all_passes))
