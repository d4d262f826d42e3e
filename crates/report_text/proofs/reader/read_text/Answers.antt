use Rattle.std.proofs.Common.{[], sym, subst}
use Rattle.std.specs.Prelude.{codes}
use Rattle.std.proofs.lemmas.Result.{err_from_is_err_and}
use Rattle.text_fields.specs.declared.version.Version.TheVariants.{Second}
use Rattle.text_fields.specs.Lines.{Unread}
use Rattle.text_fields.specs.Head.{TitleDue, head_rules}
use Rattle.text_fields.specs.Faults.{IsFirstFault}
use Rattle.text_fields.proofs.Sharp.{stops_later}
use Rattle.text_fields.proofs.Within.{fault_within}
use Rattle.book_text.specs.BookRules.{whole_text}
use Rattle.book_text.specs.CallLines.{all_calls}
use Rattle.book_text.proofs.CallTexts.{stops_then}
use Rattle.book_text.proofs.Lifts.{few_calls}
use Rattle.reports.specs.ReportLayout.{lines_in}
use Rattle.report_text.specs.ReportRules.{InHead, InLines, report_rules, IsReportText}
use Rattle.report_text.specs.Parts.{chained}
use Rattle.report_text.proofs.Readings.{head_within, report_no_end}
use Rattle.report_text.proofs.Stages.{goes_to_lines, goes_to_end_line, is_text_read}
use Rattle.report_text.proofs.ReadTexts.{read_is_written}
use Rattle.report_text.proofs.reader.read_text.Goals as goal

pub read_callers-requires : goal.read_callers-requires
read_callers-requires c = few_calls Second c.in_ok-head.head.calls c.in_ok-head.ensures.says.1.few

pub returns-in_err-head-clause-refused : goal.returns-in_err-head-clause-refused
returns-in_err-head-clause-refused c =
    let p = err_from_is_err_and c.from_residual.result c.from_residual.ensures.1 in
    let fault = subst (λ (t : Unread). IsFirstFault (head_rules Second (codes "report")) TitleDue t
    c.in_err-head.field-0.0) c.new-lines.ensures c.in_err-head.ensures.refused in
    rw (p.1, p.2) (fault_within head_within TitleDue (whole_text c.args.bytes.now)
    c.in_err-head.field-0.0 fault)

pub returns-in_err-callers-clause-refused : goal.returns-in_err-callers-clause-refused
returns-in_err-callers-clause-refused c =
    let p = err_from_is_err_and c.from_residual-in_err-callers.result
    c.from_residual-in_err-callers.ensures.1 in
    let kind = c.in_ok-head.head.kind in
    let calls = c.in_ok-head.head.calls in
    let start = goes_to_lines c.args.bytes.now kind calls c.new-lines.result c.read_head.new.lines
    c.new-lines.ensures c.in_ok-head.ensures.found in
    rw (p.1, p.2) (stops_then report_rules (InHead TitleDue)
    (InLines kind calls [] (all_calls 0 calls)) (whole_text c.args.bytes.now) c.read_head.new.lines
    c.in_err-callers.field-0.0 start c.in_err-callers.ensures.refused)

pub returns-in_err-read_end-clause-refused : goal.returns-in_err-read_end-clause-refused
returns-in_err-read_end-clause-refused c =
    let p = err_from_is_err_and c.from_residual-in_err-read_end.result
    c.from_residual-in_err-read_end.ensures.1 in
    let kind = c.in_ok-head.head.kind in
    let calls = c.in_ok-head.head.calls in
    let told = chained (lines_in c.in_ok-callers.callers.items) in
    let so_far =
    goes_to_end_line c.args.bytes.now kind calls c.new-lines.result c.read_head.new.lines
    c.new-lines.ensures c.in_ok-head.ensures.found (lines_in c.in_ok-callers.callers.items)
    c.read_callers.new.lines c.in_ok-callers.ensures.found in
    rw (p.1, p.2) (stops_later report_rules (InHead TitleDue) (InLines kind calls told [])
    (whole_text c.args.bytes.now) c.read_callers.new.lines c.in_err-read_end.field-0.0 so_far
    (report_no_end kind calls told c.read_callers.new.lines c.in_err-read_end.field-0.0
    c.in_err-read_end.ensures.refused))

pub of_lines-requires : goal.of_lines-requires
of_lines-requires c =
    let kind = c.in_ok-head.head.kind in
    let calls = c.in_ok-head.head.calls in
    let lines = lines_in c.in_ok-callers.callers.items in
    let text =
    is_text_read c.args.bytes.now kind calls c.new-lines.result c.read_head.new.lines
    c.new-lines.ensures
    c.in_ok-head.ensures.found lines c.read_callers.new.lines c.in_ok-callers.ensures.found
    c.read_end.new.lines c.in_ok-callers.ensures.sizes c.in_ok-read_end.ensures.found in
    (read_is_written c.args.bytes.now (record { kind = kind; lines = lines }) text).writable

pub returns-clause-found : goal.returns-clause-found
returns-clause-found c =
    let kind = c.in_ok-head.head.kind in
    let calls = c.in_ok-head.head.calls in
    let lines = lines_in c.in_ok-callers.callers.items in
    let text =
    is_text_read c.args.bytes.now kind calls c.new-lines.result c.read_head.new.lines
    c.new-lines.ensures
    c.in_ok-head.ensures.found lines c.read_callers.new.lines c.in_ok-callers.ensures.found
    c.read_end.new.lines c.in_ok-callers.ensures.sizes c.in_ok-read_end.ensures.found in
    subst (IsReportText c.args.bytes.now) (sym c.of_lines.ensures) text
