-- The status of what is written of a run.
use Rattle.std.proofs.Common.{◌≡◌, ℕ, Bool, true, false, List, [], ◌∷◌, length, refl, sym, ap, ◌∙◌, inl, inr, arith}
use Rattle.std.specs.Prelude.{if◌then◌else◌}
use Rattle.std.specs.List.{list_any}
use Rattle.std.proofs.lemmas.Bool.{cases_Bool}
use Rattle.seq_objects.specs.Objects.{kind_spec}
use Rattle.byte_streams.specs.declared.status.Status.{Status}
use Rattle.byte_streams.specs.declared.status.Status.TheVariants.{Fine, Found}
use Rattle.seq_objects.specs.declared.kind.Kind.TheVariants.{Queue}
use Rattle.report_lines.specs.Lines.{any_error}
use Rattle.reports.specs.Findings.{Findings}
use Rattle.reports.specs.Cases.{pending, of_queue, worked}
use Rattle.reports.specs.Tally.{counts_of}
use Rattle.named_runs.specs.declared.form.Form.TheVariants.{Counts as Numbers}
use Rattle.named_runs.specs.Runs.{StatusesTellErrors, IsRunOutput, counts_text, status_of}

pub statuses_tell_errors : StatusesTellErrors
statuses_tell_errors object report form status text (other, is, written, status_is) =
    elim (cases_Bool (list_any any_error report.lines)) [
      | inl error ↦
          inl
          (status_is ∙ ap status_of is ∙ ap (λ (b : Bool). if b then Found else Fine) error, error)
      | inr none ↦
          inr
          (status_is ∙ ap status_of is ∙ ap (λ (b : Bool). if b then Found else Fine) none, none)
    ]

abbrev quiet : Findings
quiet = of_queue ((pending 5 ∷ []) ∷ [])

pub found : IsRunOutput (kind_spec Queue) (λ report. report ≡ worked) Numbers Found
    (counts_text (record { calls = 4; delivered = 1; errors = 1 }))
found = (worked, refl, refl, refl)

pub fine : IsRunOutput (kind_spec Queue) (λ report. report ≡ quiet) Numbers Fine
    (counts_text (record { calls = 1; delivered = 0; errors = 0 }))
fine = (quiet, refl, refl, refl)

pub not_fine : IsRunOutput (kind_spec Queue) (λ report. report ≡ worked) Numbers Fine
    (counts_text (record { calls = 4; delivered = 1; errors = 1 })) → ⊥
not_fine (report, is, written, status) = let same : Fine ≡ Found = status ∙ ap status_of is in
    absurd cc

pub not_found : IsRunOutput (kind_spec Queue) (λ report. report ≡ quiet) Numbers Found
    (counts_text (record { calls = 1; delivered = 0; errors = 0 })) → ⊥
not_found (report, is, written, status) = let same : Found ≡ Fine = status ∙ ap status_of is in
    absurd cc

pub no_text : IsRunOutput (kind_spec Queue) (λ report. report ≡ worked) Numbers Found [] → ⊥
no_text (report, is, written, status) =
    let lengths : 0 ≡ length (counts_text (counts_of worked.lines)) =
    ap (λ (text : List ℕ). length text)
    (written ∙ ap (λ (r : Findings). counts_text (counts_of r.lines)) is) in
    omega (arith, lengths)

pub no_report : IsRunOutput (kind_spec Queue) (λ report. ⊥) Numbers Fine
    (counts_text (record { calls = 0; delivered = 0; errors = 0 })) → ⊥
no_report (report, is, written, status) = is
