-- Laws of the certificates of reports.
use Rattle.std.specs.Prelude.{◌≡◌, ℕ, List, Some, slice_get}
use Rattle.book_base.specs.declared.call.Call.{Call}
use Rattle.book_base.specs.declared.call.Record.{Record}
use Rattle.book_base.specs.declared.call.Place.{Place}
use Rattle.book_base.specs.SeqSpec.{SeqSpec}
use Rattle.book_base.specs.Book.{Page}
use Rattle.book_base.specs.Order.{IsLegalOrder}
use Rattle.seq_objects.specs.declared.kind.Kind.{Kind}
use Rattle.world_core.specs.Shape.{Shape}
use Rattle.report_lines.specs.declared.line.LineEnd.TheVariants.{Delivered}
use Rattle.report_lines.specs.declared.line.Line.{Line}
use Rattle.report_lines.specs.Lines.{line_at}
use Rattle.report_lines.specs.Lawful.{IsLawful}
use Rattle.reports.specs.Findings.{Findings}
use Rattle.certificate_text.specs.CertificateRules.{IsCertificateText}
use Rattle.named_runs.specs.Certificates.{IsDeliveredBook, HasDeliveredOrder, IsCertificate}

-- What was delivered in a lawful report has a legal order.
abbrev pub LawfulReportsHaveAnOrder : Type 0
LawfulReportsHaveAnOrder = (spec : SeqSpec) (s : Shape)
    (operations : List (List ℕ)) (allotments : List ℕ) (lines : List (List Line))
    → IsLawful spec s operations allotments lines → HasDeliveredOrder spec lines

-- A report has a certificate only where what was delivered has a legal order.
abbrev pub CertificatesNeedAnOrder : Type 0
CertificatesNeedAnOrder =
    (spec : SeqSpec) (report : Findings) (bytes : List ℕ)
    → IsCertificate spec report bytes → HasDeliveredOrder spec report.lines

-- Each delivered reply of a lawful report is in each legal order of what was delivered.
abbrev pub DeliveredRepliesStandInTheOrder : Type 0
DeliveredRepliesStandInTheOrder = (spec : SeqSpec) (s : Shape)
    (operations : List (List ℕ)) (allotments : List ℕ) (lines : List (List Line))
    → IsLawful spec s operations allotments lines
    → (book : List Page) (order : List Place) → IsDeliveredBook lines book
    → IsLegalOrder spec book order
    → (call : Call) (line : Line) (r : Record) (cut : List ℕ) → line_at lines call ≡ Some line
    → line.end ≡ Delivered r cut
    → (k : ℕ) × (slice_get order k
    ≡ Some (record { caller = call.caller; number = call.number; reply = r.reply }))

-- What is read in a certificate of a report: the report's kind, the book of what was delivered, and
-- a legal order of it.
pub record IsCertified (spec : SeqSpec) (report : Findings) (kind : Kind) (book : List Page)
    (order : List Place) : Type 0 where
  pub kinds : kind ≡ report.kind
  pub at : IsDeliveredBook report.lines book
  pub legal : IsLegalOrder spec book order

-- Whoever reads a certificate of a report reads the report's kind, the book of what was delivered,
-- and a legal order of it.
abbrev pub CertificatesAreRead : Type 0
CertificatesAreRead = (spec : SeqSpec) (report : Findings)
    (bytes : List ℕ) (kind : Kind) (book : List Page) (order : List Place)
    → IsCertificate spec report bytes → IsCertificateText bytes kind book order
    → IsCertified spec report kind book order

-- All certificates of a report are of one book. Their orders may differ.
abbrev pub CertificatesHaveOneBook : Type 0
CertificatesHaveOneBook = (spec : SeqSpec) (report : Findings)
    (k l : Kind) (a b : List Page) (p q : List Place)
    → IsCertified spec report k a p → IsCertified spec report l b q → a ≡ b
