use Rattle.std.proofs.Common.{◌≡◌, ◌∙◌, List, ℕ, sym, ap, subst}
use Rattle.std.proofs.lemmas.Option.{IfSome_then, none-some}
use Rattle.list_laws.proofs.Options.{IfNone_then}
use Rattle.report_lines.specs.Lines.{error_at}
use Rattle.reports.specs.Findings.{Findings}
use Rattle.report_text.specs.ReportRules.{IsReportText}
use Rattle.given_book.proofs.FirstErrors.{one_report_part}
use Rattle.given_book.proofs.error_line.first_error.Goals as goal

pub returns-in-Ok-clause-found : goal.returns-in-Ok-clause-found
returns-in-Ok-clause-found c =
    IfSome_then c.first_error_of.result c.first_error_of.ensures.found (λ call is.
    record {
      part = c.report_part.result.now;
      is = c.report_part.ensures;
      findings = c.in-Ok.report;
      told = c.in-Ok.ensures.found;
      cut = is.0;
      error = is.1;
    })

pub returns-in-Ok-clause-none : goal.returns-in-Ok-clause-none
returns-in-Ok-clause-none c =
    IfNone_then c.first_error_of.result c.first_error_of.ensures.none (λ none call given.
    let part = c.report_part.result.now in
    let same : given.part ≡ part =
    one_report_part c.args.bytes.now given.part part given.is c.report_part.ensures in
    let told : IsReportText part given.findings =
    subst (λ (p : List ℕ). IsReportText p given.findings) same given.told in
    let is : c.in-Ok.report ≡ given.findings = c.in-Ok.ensures.only given.findings told in
    none-some given.cut
    (sym (none call) ∙ (ap (λ (f : Findings). error_at f.lines call) is ∙ given.error.error)))

pub returns-in-Err-Text-clause-none : goal.returns-in-Err-Text-clause-none
returns-in-Err-Text-clause-none c = λ call given.
    let part = c.report_part.result.now in
    let same : given.part ≡ part =
    one_report_part c.args.bytes.now given.part part given.is c.report_part.ensures in
    let told : IsReportText part given.findings =
    subst (λ (p : List ℕ). IsReportText p given.findings) same given.told in
    let never = c.in-Err-Text.ensures.only given.findings told in absurd cc
