-- Where no line is an error, and which the first one is.
use Rattle.std.proofs.Common.{◌≡◌, ℕ, zero, suc, ◌<◌, false, List, [], ◌∷◌, take, Option, Some, None, slice_get, refl, sym, ap, ◌∙◌, inl, inr}
use Rattle.std.specs.Option.{option_and_then}
use Rattle.std.specs.List.{list_any}
use Rattle.std.proofs.lemmas.Bool.{or_parts}
use Rattle.std.proofs.lemmas.List.{get_or-take}
use Rattle.list_laws.proofs.Prefixes.{slice_get-take_within}
use Rattle.std.proofs.lemmas.Option.{none-some}
use Rattle.list_laws.proofs.Options.{none_from_is_some, and_then_some}
use Rattle.book_base.specs.declared.call.Call.{Call}
use Rattle.report_lines.specs.declared.line.LineEnd.{LineEnd}
use Rattle.report_lines.specs.declared.line.LineEnd.TheVariants.{Pending, Unchecked, Delivered, Error}
use Rattle.report_lines.specs.declared.line.Line.{Line}
use Rattle.report_lines.specs.Lines.{lines_at, seen_in, seen_at, error_in, error_at, is_error, any_error}
use Rattle.reports.specs.Findings.{IsReport, Findings, IsInBook, HasFirstError, HasFirstErrorIn}

-- where none of some lines is an error, none has a seen cut as an error
pub no_error_in : (own : List Line) (k : ℕ) → any_error own ≡ false
    → option_and_then (λ (line : Line). error_in line.end) (slice_get own k) ≡ None
no_error_in [] k none = refl
no_error_in (line ∷ own) zero none =
    none_from_is_some (error_in line.end) (or_parts (is_error line) (any_error own) none).0
no_error_in (line ∷ own) (suc k) none =
    no_error_in own k (or_parts (is_error line) (any_error own) none).1

pub no_error_of : (lines : List (List Line)) (i : ℕ) → list_any any_error lines ≡ false
    → any_error (lines_at lines i) ≡ false
no_error_of [] i none = refl
no_error_of (own ∷ lines) zero none = (or_parts (any_error own) (list_any any_error lines) none).0
no_error_of (own ∷ lines) (suc i) none =
    no_error_of lines i (or_parts (any_error own) (list_any any_error lines) none).1

no_error_before : (lines : List (List Line)) (i : ℕ) (call : Call)
    → list_any any_error (take i lines) ≡ false → call.caller < i → error_at lines call ≡ None
no_error_before lines i call none low =
    let own : any_error (lines_at lines call.caller) ≡ false
    = ap any_error (sym (get_or-take i lines call.caller [] low))
    ∙ no_error_of (take i lines) call.caller none in
    no_error_in (lines_at lines call.caller) call.number own

-- the first error of the first caller that has one is the first of all
pub first_of_all : (lines : List (List Line)) (i : ℕ) (cut : List ℕ)
    → list_any any_error (take i lines) ≡ false → HasFirstErrorIn (lines_at lines i) cut
    → HasFirstError lines cut
first_of_all lines i cut none found =
    let k : ℕ = found.0 in
    let own : List Line = lines_at lines i in
    let saw : Option Line → Option (List ℕ) =
    option_and_then (λ (line : Line). error_in line.end) in (
      record { caller = i; number = k },
      record {
        error = ap saw found.2 ∙ found.3;
        first = λ other before. elim before [
          | inl lower ↦ no_error_before lines i other none lower
          | inr earlier ↦
              ap (λ (j : ℕ). saw (slice_get (lines_at lines j) other.number)) earlier.0
              ∙ (ap saw (sym (slice_get-take_within k own other.number earlier.1))
              ∙ no_error_in (take k own) other.number found.4)
        ];
      },
    )

-- the cut of an error is a seen cut
error_sees : (end : LineEnd) (cut : List ℕ) → error_in end ≡ Some cut → seen_in end ≡ Some cut
error_sees Pending cut e = absurd (none-some cut e)
error_sees (Unchecked r) cut e = absurd (none-some cut e)
error_sees (Delivered r own) cut e = absurd (none-some cut e)
error_sees (Error r own) cut e = e

error_is_seen : (lines : List (List Line)) (call : Call) (cut : List ℕ)
    → error_at lines call ≡ Some cut → seen_at lines call ≡ Some cut
error_is_seen lines call cut e =
    let found = and_then_some (slice_get (lines_at lines call.caller) call.number)
    (λ (line : Line). error_in line.end) cut e in
    ap (λ (o : Option Line). option_and_then (λ (line : Line). seen_in line.end) o) found.1
    ∙ error_sees found.0.end cut found.2

-- the cut of the first error is in the book
pub first_is_in_book : (findings : Findings) (cut : List ℕ) → IsReport findings
    → HasFirstError findings.lines cut → IsInBook findings.lines cut
first_is_in_book findings cut is first =
    let sees = error_is_seen findings.lines first.0 cut first.1.error in
    (is.seen.wide first.0 cut sees, is.seen.within first.0 cut sees)
