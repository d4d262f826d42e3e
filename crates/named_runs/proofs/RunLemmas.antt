-- Lemmas on what is written of a run.
use Rattle.std.proofs.Common.{◌≡◌, ◌⊎◌, ℕ, zero, suc, false, List, [], ◌∷◌, ◌++◌, Option, Some, None, slice_get, refl, sym, ap, ◌∙◌, inl, inr, subst, arith}
use Rattle.std.specs.List.{list_any}
use Rattle.std.specs.Option.{option_and_then}
use Rattle.std.proofs.lemmas.Bool.{or_parts}
use Rattle.std.proofs.lemmas.Option.{none-some}
use Rattle.list_laws.proofs.Options.{none_from_is_some}
use Rattle.book_base.specs.declared.call.Call.{Call}
use Rattle.book_base.specs.SeqSpec.{SeqSpec}
use Rattle.book_base.specs.Book.{Page}
use Rattle.book_base.specs.BookAt.{IsBookAt}
use Rattle.book_base.specs.Order.{IsLegalOrder}
use Rattle.legal_orders.proofs.BookAt.{books_at_are_one}
use Rattle.book_text.specs.Grammar.{book_lines}
use Rattle.report_lines.specs.declared.line.Line.{Line}
use Rattle.report_lines.specs.Lines.{book_of_lines, lines_at, error_in, error_at, is_error, any_error}
use Rattle.reports.specs.Findings.{Findings, StandsBefore, IsFirstError, IsWitness}
use Rattle.named_runs.proofs.CertificateLaws.{certificates_are_read, certificates_have_one_book}
use Rattle.seq_objects.specs.declared.kind.Kind.{Kind}
use Rattle.seq_objects.specs.Objects.{kind_spec}
use Rattle.text_fields.specs.declared.version.Version.TheVariants.{Second}
use Rattle.text_fields.specs.Lines.{text_of}
use Rattle.named_runs.specs.declared.form.Form.{Form}
use Rattle.named_runs.specs.declared.form.Form.TheVariants.{Report, Counts, Certificate}
use Rattle.byte_streams.specs.declared.status.Status.{Status}
use Rattle.byte_streams.proofs.WritingLemmas.{EndsWriting-weaker}
use Rattle.named_runs.specs.Runs.{IsWitnessText, IsRunOutput, RunEnds, FormsWriteOneText, CertificatesAreLegal, CertificatesAreOfTheirKind, CertificatesTellOneBook}

-- what is written of a report is written of a run with such a report, by an equal object
pub RunEnds-from_report : (object other : SeqSpec) (IsReportOf : Findings → Type 0) (form : Form)
    (report : Findings) (result : Status) (taken taken' : Option (List ℕ)) → object ≡ other
    → IsReportOf report → RunEnds object (λ other. other ≡ report) form result taken taken'
    → RunEnds other IsReportOf form result taken taken'
RunEnds-from_report object other IsReportOf form report result taken taken' same is ends =
    subst (λ (o : SeqSpec). RunEnds o IsReportOf form result taken taken') same
    (EndsWriting-weaker (IsRunOutput object (λ other. other ≡ report) form)
    (IsRunOutput object IsReportOf form) result taken taken'
    (λ status text output. (output.0, subst IsReportOf (sym output.1) is, output.2, output.3)) ends)

-- ---- a form but the certificate writes one text of a report

-- where none of some lines is an error, none has a seen cut as an error
no_error_in : (own : List Line) (k : ℕ) → any_error own ≡ false
    → option_and_then (λ (line : Line). error_in line.end) (slice_get own k) ≡ None
no_error_in [] k none = refl
no_error_in (line ∷ own) zero none =
    none_from_is_some (error_in line.end) (or_parts (is_error line) (any_error own) none).0
no_error_in (line ∷ own) (suc k) none =
    no_error_in own k (or_parts (is_error line) (any_error own) none).1

pub no_error_of : (lines : List (List Line)) (i : ℕ) → list_any any_error lines ≡ false
    → any_error (lines_at lines i) ≡ false
no_error_of [] i none = refl
no_error_of (own ∷ lines) zero none = (or_parts (any_error own) (list_any any_error lines) none).0
no_error_of (own ∷ lines) (suc i) none =
    no_error_of lines i (or_parts (any_error own) (list_any any_error lines) none).1

-- a report without an error has no witness
no_witness : (lines : List (List Line)) (book : List Page) → list_any any_error lines ≡ false
    → IsWitness lines book → ⊥
no_witness lines book none witness =
    none-some witness.cut (sym (no_error_in (lines_at lines witness.call.caller) witness.call.number
    (no_error_of lines witness.call.caller none)) ∙ witness.error.error)

-- of two calls one comes before the other, or they are one call
order_of : (a b : Call) → StandsBefore a b ⊎ (StandsBefore b a ⊎ (a ≡ b))
order_of a b = grind (arith)

-- the first error has one seen cut
one_first_error : (lines : List (List Line)) (a b : Call) (cut other : List ℕ)
    → IsFirstError lines a cut → IsFirstError lines b other → cut ≡ other
one_first_error lines a b cut other first second =
    elim (order_of a b) [
      | inl before ↦ absurd (none-some cut (sym (second.first a before) ∙ first.error))
      | inr (inl suffix) ↦ absurd (none-some other (sym (first.first b suffix) ∙ second.error))
      | inr (inr same) ↦ let both : ◌≡◌ {A = Option (List ℕ)} (Some cut) (Some other) =
          sym first.error ∙ ap (error_at lines) same ∙ second.error in cc
    ]

-- a report has one witness
one_witness : (lines : List (List Line)) (a b : List Page) → IsWitness lines a
    → IsWitness lines b → a ≡ b
one_witness lines a b first second =
    let same =
    one_first_error lines first.call second.call first.cut second.cut first.error second.error in
    books_at_are_one (book_of_lines lines) second.cut a b
    (subst (λ (cut : List ℕ). IsBookAt (book_of_lines lines) cut a) same first.at) second.at

one_witness_text : (report : Findings) (a b : List ℕ) → IsWitnessText report a
    → IsWitnessText report b → a ≡ b
one_witness_text report a b (inl none) (inl also) = none.1 ∙ sym also.1
one_witness_text report a b (inl none) (inr some) =
    absurd (no_witness report.lines some.0 none.0 some.1)
one_witness_text report a b (inr some) (inl none) =
    absurd (no_witness report.lines some.0 none.0 some.1)
one_witness_text report a b (inr one) (inr other) =
    one.2.text ∙ ap (λ (book : List Page). text_of (book_lines Second report.kind book))
    (one_witness report.lines one.0 other.0 one.1 other.1) ∙ sym other.2.text

-- a form but the certificate writes one text of a report
pub forms_write_one_text : FormsWriteOneText
forms_write_one_text object Report report a b other_form one other =
    let shown : one.0 ≡ other.0 = one.2.text ∙ sym other.2.text in
    one.4 ∙ ap (λ (text : List ℕ). text ++ one.1) shown ∙ ap (λ (text : List ℕ). other.0 ++ text)
    (one_witness_text report one.1 other.1 one.3 other.3) ∙ sym other.4
forms_write_one_text object Counts report a b other_form one other = one ∙ sym other
forms_write_one_text object Certificate report a b other_form one other = absurd (other_form refl)

-- ---- certificates are legal, and are of one book

pub certificates_are_legal : CertificatesAreLegal
certificates_are_legal object report text kind book order written read =
    let told =
    certificates_are_read object report text kind book order written read in
    (told.kinds, told.legal)

pub certificates_are_of_their_kind : CertificatesAreOfTheirKind
certificates_are_of_their_kind report text kind book order written read =
    let told =
    certificates_are_legal (kind_spec report.kind) report text kind book order written read in
    subst (λ (k : Kind). IsLegalOrder (kind_spec k) book order) (sym told.0) told.1

pub certificates_tell_one_book : CertificatesTellOneBook
certificates_tell_one_book object report a b k l p q order other one two read read_too =
    let first = certificates_are_read object report a k p order one read in
    let second = certificates_are_read object report b l q other two read_too in (
      first.kinds ∙ sym second.kinds,
      certificates_have_one_book object report k l p q order other first second,
    )
