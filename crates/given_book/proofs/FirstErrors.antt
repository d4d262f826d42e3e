-- The first error line of a report.
use Rattle.std.proofs.Common.{◌≡◌, ℕ, ◌+◌, ◌<◌, ◌≤◌, ◌⊎◌, ◌∙◌, false, List, [], length, take, Some, None, inl, inr, sym, ap, subst, arith}
use Rattle.std.specs.Option.{option_and_then}
use Rattle.std.proofs.Math.Nat.{eq-or-lt_of_le}
use Rattle.std.proofs.lemmas.Bool.{cases_lt, cases_order}
use Rattle.std.proofs.lemmas.Option.{slice_get_past}
use Rattle.std.proofs.lemmas.List.{get_or_past}
use Rattle.list_laws.proofs.Options.{none_from_is_some}
use Rattle.book_base.specs.declared.call.Call.{Call}
use Rattle.report_lines.specs.declared.line.Line.{Line}
use Rattle.report_lines.specs.Lines.{lines_at, line_at, error_in, error_at, is_error}
use Rattle.reports.specs.Findings.{IsFirstError}
use Rattle.given_book.specs.FirstError.{IsUpToEnd, IsReportPart}

-- a call's error is that of its line
pub error_by_line : (lines : List (List Line)) (call : Call) (line : Line)
    → line_at lines call ≡ Some line → error_at lines call ≡ error_in line.end
error_by_line lines call line at = ap (option_and_then (λ (l : Line). error_in l.end)) at

-- the call of a line that is no error has no error
pub no_error : (lines : List (List Line)) (call : Call) (line : Line)
    → line_at lines call ≡ Some line → is_error line ≡ false → error_at lines call ≡ None
no_error lines call line at not_error =
    error_by_line lines call line at ∙ none_from_is_some (error_in line.end) not_error

-- a call without a line has no error
no_line : (lines : List (List Line)) (call : Call)
    → length (lines_at lines call.caller) ≤ call.number → error_at lines call ≡ None
no_line lines call past = ap (option_and_then (λ (l : Line). error_in l.end))
    (slice_get_past (lines_at lines call.caller) call.number past)

-- where no line of a caller is an error, no call of the caller has one
pub none_of_caller : (lines : List (List Line)) (i : ℕ) → ((k : ℕ) → k < length (lines_at lines i)
    → error_at lines (record { caller = i; number = k }) ≡ None)
    → (k : ℕ) → error_at lines (record { caller = i; number = k }) ≡ None
none_of_caller lines i none k = elim (cases_lt k (length (lines_at lines i))) [
  | inl inside ↦ none k inside
  | inr past ↦ no_line lines (record { caller = i; number = k }) past
]

at_caller : (lines : List (List Line)) (other : Call) (i : ℕ) → other.caller ≡ i
    → error_at lines (record { caller = i; number = other.number }) ≡ None
    → error_at lines other ≡ None
at_caller lines other i same none =
    subst (λ (j : ℕ). error_at lines (record { caller = j; number = other.number }) ≡ None)
    (sym same) none

-- the callers below one without an error, and this one, have no error
pub none_more : (lines : List (List Line)) (i : ℕ)
    → ((other : Call) → other.caller < i → error_at lines other ≡ None)
    → ((k : ℕ) → error_at lines (record { caller = i; number = k }) ≡ None) → (other : Call)
    → other.caller < i + 1 → error_at lines other ≡ None
none_more lines i before here other less =
    let le : other.caller ≤ i = omega arith in
    elim (eq-or-lt_of_le le) [
      | inl same ↦ at_caller lines other i same (here other.number)
      | inr earlier ↦ before other earlier
    ]

-- where no caller of a report has an error, no call has one
pub none_of_all : (lines : List (List Line)) (n : ℕ) → length lines ≤ n
    → ((other : Call) → other.caller < n → error_at lines other ≡ None) → (call : Call)
    → error_at lines call ≡ None
none_of_all lines n wide none call = elim (cases_lt call.caller n) [
  | inl inside ↦ none call inside
  | inr past ↦
      let empty : lines_at lines call.caller ≡ [] =
      get_or_past lines call.caller [] (omega (arith, wide, past)) in
      no_line lines call (omega (arith, ap (length {A = Line}) empty))
]

-- the first error of the first caller that has one
pub first_of_all : (lines : List (List Line)) (i number : ℕ) (cut : List ℕ)
    → ((other : Call) → other.caller < i → error_at lines other ≡ None)
    → error_at lines (record { caller = i; number = number }) ≡ Some cut
    → ((k : ℕ) → k < number → error_at lines (record { caller = i; number = k }) ≡ None)
    → IsFirstError lines (record { caller = i; number = number }) cut
first_of_all lines i number cut before error first = record {
  error = error;
  first = λ other stands. elim stands [
    | inl earlier ↦ before other earlier
    | inr same ↦ at_caller lines other i same.0 (first other.number same.1)
  ];
}

one_by_order : (bytes p q : List ℕ) (a : IsUpToEnd bytes p) (b : IsUpToEnd bytes q) → (a.at ≡ b.at)
    ⊎ ((a.at < b.at) ⊎ (b.at < a.at)) → p ≡ q
one_by_order bytes p q a b (inl is) = a.is ∙ (ap (λ n. take (n + 5) bytes) is ∙ sym b.is)
one_by_order bytes p q a b (inr (inl lt)) = absurd (b.first a.at a.rest lt a.has)
one_by_order bytes p q a b (inr (inr gt)) = absurd (a.first b.at b.rest gt b.has)

-- there is one part that may be a report's text
pub one_report_part : (bytes p q : List ℕ) → IsReportPart bytes p → IsReportPart bytes q → p ≡ q
one_report_part bytes p q (inl a) (inl b) = one_by_order bytes p q a b (cases_order a.at b.at)
one_report_part bytes p q (inl a) (inr none) = absurd (none.0 a.at a.rest a.has)
one_report_part bytes p q (inr none) (inl b) = absurd (none.0 b.at b.rest b.has)
one_report_part bytes p q (inr none) (inr also) = none.1 ∙ sym also.1
