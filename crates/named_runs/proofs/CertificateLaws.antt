-- The laws of the certificates of reports.
use Rattle.std.proofs.Common.{◌≡◌, ℕ, ◌+◌, ◌<◌, List, length, slice_get, slice_index, Some, IsSome, Option, refl, sym, ap, ◌∙◌, subst, arith}
use Rattle.std.specs.Option.{option_and_then}
use Rattle.book_base.specs.declared.call.Place.{Place}
use Rattle.book_base.specs.Cut.{Holds}
use Rattle.book_base.specs.Book.{Page, record_of}
use Rattle.book_base.specs.BookAt.{book_at}
use Rattle.book_base.specs.Order.{IsLegalOrder, HasLegalOrder}
use Rattle.legal_orders.proofs.BookAt.{books_at_are_one, record_of-part, book_at_is_the_book_at}
use Rattle.report_lines.specs.declared.line.LineEnd.{LineEnd}
use Rattle.report_lines.specs.declared.line.Line.{Line}
use Rattle.report_lines.specs.Lines.{book_of_lines, lines_at, delivered_in, delivered_at}
use Rattle.report_lines.specs.Allotments.{operations_at}
use Rattle.report_lines.specs.Lawful.{delivered_cut}
use Rattle.report_lines.proofs.Lines.{caller_within}
use Rattle.report_lines.proofs.Fitting.{lines_before_the_last_are_delivered}
use Rattle.reports.specs.Filling.{answer_in}
use Rattle.reports.proofs.Filling.{page_of-lines, delivered_led, record_at}
use Rattle.certificate_text.proofs.Readings.{one_certificate}
use Rattle.certificate_text.proofs.ReadTexts.{a_text_is_its_lines}
use Rattle.named_runs.specs.Certificates.{delivered_cut_of, IsDeliveredBook}
use Rattle.named_runs.specs.CertificateLaws.{LawfulReportsHaveAnOrder, CertificatesNeedAnOrder, DeliveredRepliesStandInTheOrder, CertificatesAreRead, CertificatesHaveOneBook}

pub lawful_reports_have_an_order : LawfulReportsHaveAnOrder
lawful_reports_have_an_order spec s operations allotments lines lawful = (
  book_at (delivered_cut_of lines) (book_of_lines lines),
  book_at_is_the_book_at (book_of_lines lines) (delivered_cut_of lines) lawful.valid,
  subst (λ (n : ℕ). HasLegalOrder spec (book_at (delivered_cut n lines) (book_of_lines lines)))
      (sym lawful.callers) lawful.one_order,
)

pub certificates_need_an_order : CertificatesNeedAnOrder
certificates_need_an_order spec report bytes certificate =
    (certificate.book, certificate.at, (certificate.order, certificate.legal))

pub delivered_replies_stand_in_the_order : DeliveredRepliesStandInTheOrder
delivered_replies_stand_in_the_order spec s operations allotments lines lawful book order at
    legal call line r cut there delivered =
    let own : List Line = lines_at lines call.caller in
    let inside : call.caller < s.callers =
    omega (arith, lawful.callers, caller_within lines call line there) in
    let led : (k : ℕ) (l : Line) → slice_get own k ≡ Some l → k + 1 < length own
    → IsSome (delivered_in l.end) =
    λ k l here low.
    let d = lines_before_the_last_are_delivered (operations_at operations call.caller)
    (slice_index allotments call.caller) own k l (lawful.allotted call.caller inside) here low in
    subst (λ (end : LineEnd). IsSome (delivered_in end)) (sym d.2) refl in
    let told : record_of (book_of_lines lines) call ≡ Some r =
    ap (λ (p : Page). slice_get p.records call.number) (page_of-lines lines call.caller)
    ∙ record_at own (delivered_led own led) call.number line there ∙ ap answer_in delivered in
    let saw : delivered_at lines call ≡ Some cut =
    ap (λ (o : Option Line). option_and_then (λ (l : Line). delivered_in l.end) o) there
    ∙ ap delivered_in delivered in
    let held : Holds (delivered_cut_of lines) call =
    subst (λ (n : ℕ). Holds (delivered_cut n lines) call) (sym lawful.callers)
    (lawful.holds call cut saw) in
    legal.answered call r
    (record_of-part (book_of_lines lines) (delivered_cut_of lines) book at call held ∙ told)

pub certificates_are_read : CertificatesAreRead
certificates_are_read spec report bytes kind book order certificate read =
    let own =
    (a_text_is_its_lines bytes report.kind certificate.book certificate.order).0 certificate.text in
    let one =
    one_certificate bytes kind report.kind book certificate.book order certificate.order read own in
    record {
      kinds = one.kinds;
      at = subst (IsDeliveredBook report.lines) (sym one.books) certificate.at;
      legal = subst (λ (o : List Place). IsLegalOrder spec book o) (sym one.orders)
          (subst (λ (b : List Page). IsLegalOrder spec b certificate.order)
          (sym one.books) certificate.legal);
    }

pub certificates_have_one_book : CertificatesHaveOneBook
certificates_have_one_book spec report k l a b p q one other =
    books_at_are_one _ _ a b one.at other.at
