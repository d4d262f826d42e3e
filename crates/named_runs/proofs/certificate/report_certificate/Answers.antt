use Rattle.std.proofs.Common.{List, subst}
use Rattle.book_base.specs.SeqSpec.{SeqSpec}
use Rattle.book_base.specs.Book.{Page}
use Rattle.book_base.specs.Order.{HasLegalOrder}
use Rattle.legal_orders.proofs.BookAt.{books_at_are_one}
use Rattle.report_lines.specs.Lines.{book_of_lines}
use Rattle.frontier_check.specs.declared.verdict.Verdict.{Verdict}
use Rattle.frontier_check.specs.Verdict.{IsRight}
use Rattle.named_runs.specs.Certificates.{delivered_cut_of}
use Rattle.named_runs.proofs.certificate.report_certificate.Goals as goal

pub returns-clause-none : goal.returns-clause-none
returns-clause-none g c has =
    let spec : SeqSpec = g.S.SeqObject.spec c.args.object.now in
    let book : List Page = c.in_ok-book.book in
    let lines = c.args.report.now.lines in
    let one = books_at_are_one (book_of_lines lines)
    (delivered_cut_of lines) has.0 book has.1 c.in_ok-book.ensures in
    let none : HasLegalOrder spec book → ⊥ = subst
    (λ (v : Verdict). IsRight spec book v) c.in-Illegal.is c.in_ok-order.ensures.verdict in
    none (subst (λ (b : List Page). HasLegalOrder spec b) one has.2)
