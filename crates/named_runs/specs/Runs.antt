-- What is written of a run: its report in one of three forms, and the status that comes with it.
use Rattle.std.specs.Prelude.{◌≡◌, ◌≢◌, ◌⊎◌, ℕ, List, [], ◌++◌, true, false, codes, decimal, Option, if◌then◌else◌}
use Rattle.std.specs.List.{list_any}
use Rattle.book_base.specs.declared.call.Place.{Place}
use Rattle.book_base.specs.SeqSpec.{SeqSpec}
use Rattle.book_base.specs.Book.{Page}
use Rattle.book_base.specs.Order.{IsLegalOrder}
use Rattle.book_text.specs.Grammar as books
use Rattle.report_lines.specs.Lines.{any_error}
use Rattle.seq_objects.specs.declared.kind.Kind.{Kind}
use Rattle.seq_objects.specs.Objects.{kind_spec}
use Rattle.reports.specs.declared.counts.Counts.{Counts}
use Rattle.reports.specs.Findings.{Findings, IsWitness}
use Rattle.reports.specs.Grammar as reports
use Rattle.reports.specs.Tally.{counts_of}
use Rattle.certificate_text.specs.CertificateRules.{IsCertificateText}
use Rattle.named_runs.specs.Certificates.{HasDeliveredOrder, IsCertificate}
use Rattle.text_fields.specs.declared.version.Version.TheVariants.{Second}
use Rattle.named_runs.specs.declared.form.Form.{Form}
use Rattle.named_runs.specs.declared.form.Form.TheVariants.{Report, Counts as Numbers, Certificate}
use Rattle.byte_streams.specs.declared.status.Status.{Status}
use Rattle.byte_streams.specs.declared.status.Status.TheVariants.{Fine, Found}
use Rattle.byte_streams.specs.Writing.{EndsWriting}

-- The text that is written after a report: where one of its lines is an error, the text of the book
-- at the seen cut of the first error line, else nothing.
abbrev pub IsWitnessText : Findings → List ℕ → Type 0
IsWitnessText report rest =
    ((list_any any_error report.lines ≡ false) × (rest ≡ []))
    ⊎ ((book : List Page) × IsWitness report.lines book
    × books.IsWrittenText Second rest report.kind book)

-- The line that shows the three counts of a report: its calls, those delivered and those in error.
abbrev pub counts_text : Counts → List ℕ
counts_text counts =
    codes "calls " ++ decimal counts.calls ++ codes " delivered " ++ decimal counts.delivered
    ++ codes " errors " ++ decimal counts.errors ++ codes "\n"

-- The text that a form shows of a report whose lines are judged by a sequential object.
abbrev pub IsWritten : SeqSpec → Form → Findings → List ℕ → Type 0
IsWritten object Report report text = (shown : List ℕ) × (rest : List ℕ)
    × reports.IsWrittenText shown report × IsWitnessText report rest × (text ≡ shown ++ rest)
IsWritten object Numbers report text = text ≡ counts_text (counts_of report.lines)
IsWritten object Certificate report text = IsCertificate object report text

-- A report can be shown in a form: a certificate needs a legal order of what was delivered, as
-- every lawful report has one.
abbrev pub HasForm : SeqSpec → Form → Findings → Type 0
HasForm object Report report = Unit {0}
HasForm object Numbers report = Unit {0}
HasForm object Certificate report = HasDeliveredOrder object report.lines

-- The status that comes with a report: `Found` where one of its lines is an error, else `Fine`.
abbrev pub status_of : Findings → Status
status_of report = if list_any any_error report.lines then Found else Fine

-- The output of a run with one of these reports, whose lines are judged by a sequential object: a
-- status and a text.
abbrev pub IsRunOutput : SeqSpec → (Findings → Type 0) → Form → Status → List ℕ → Type 0
IsRunOutput object IsReportOf form status text = (report : Findings) × IsReportOf report
    × IsWritten object form report text × (status ≡ status_of report)

-- A call that writes what a form shows of a run with one of these reports has ended with this
-- status: it wrote, after the bytes that the sink had taken, all of that with `Found` or `Fine`, a
-- prefix of it with `WriteFault`, and nothing with `NoMemory`.
abbrev pub RunEnds : SeqSpec → (Findings → Type 0) → Form → Status → Option (List ℕ)
    → Option (List ℕ) → Type 0
RunEnds object IsReportOf form status taken taken' =
    EndsWriting (IsRunOutput object IsReportOf form) status taken taken'

-- The status of an output says whether a line of its report is an error.
abbrev pub StatusesTellErrors : Type 0
StatusesTellErrors =
    (object : SeqSpec) (report : Findings) (form : Form) (status : Status) (text : List ℕ)
    → IsRunOutput object (λ other. other ≡ report) form status text
    → ((status ≡ Found) × (list_any any_error report.lines ≡ true))
    ⊎ ((status ≡ Fine) × (list_any any_error report.lines ≡ false))

-- Each form other than the certificate determines the text that is written of a report.
abbrev pub FormsWriteOneText : Type 0
FormsWriteOneText = (object : SeqSpec) (form : Form) (report : Findings) (a b : List ℕ)
    → form ≢ Certificate → IsWritten object form report a → IsWritten object form report b → a ≡ b

-- Whoever reads a certificate reads the report's kind, and an order of its book that is legal for
-- the object.
abbrev pub CertificatesAreLegal : Type 0
CertificatesAreLegal = (object : SeqSpec) (report : Findings) (text : List ℕ) (kind : Kind)
    (book : List Page) (order : List Place)
    → IsWritten object Certificate report text → IsCertificateText text kind book order
    → (kind ≡ report.kind) × IsLegalOrder object book order

-- Where a report's lines are judged by the object of the report's kind, the order in its
-- certificate is legal for the kind that the certificate names.
abbrev pub CertificatesAreOfTheirKind : Type 0
CertificatesAreOfTheirKind =
    (report : Findings) (text : List ℕ) (kind : Kind) (book : List Page) (order : List Place)
    → IsWritten (kind_spec report.kind) Certificate report text
    → IsCertificateText text kind book order
    → IsLegalOrder (kind_spec kind) book order

-- Certificates of a report may differ in their orders alone: whoever reads two of them reads one
-- kind and one book.
abbrev pub CertificatesTellOneBook : Type 0
CertificatesTellOneBook = (object : SeqSpec) (report : Findings) (a b : List ℕ) (k l : Kind)
    (p q : List Page) (order other : List Place)
    → IsWritten object Certificate report a → IsWritten object Certificate report b
    → IsCertificateText a k p order → IsCertificateText b l q other → (k ≡ l) × (p ≡ q)
