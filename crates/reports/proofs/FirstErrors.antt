-- Where a line is an error there is a first error, and it is one line.
use Rattle.std.proofs.Common.{◌≡◌, ℕ, suc, true, false, List, [], ◌∷◌, take, None, refl, sym, ap, ◌∙◌, subst, inl, inr, arith}
use Rattle.std.specs.List.{list_any}
use Rattle.std.proofs.lemmas.Bool.{cases_Bool, or_cases, or_from, cases_lt}
use Rattle.std.proofs.lemmas.Option.{none-some, same_Some}
use Rattle.list_laws.proofs.Options.{some_from_is_some}
use Rattle.book_base.specs.declared.call.Call.{Call}
use Rattle.book_base.proofs.ViewLemmas.{same_call}
use Rattle.book_base.specs.BookAt.{IsBookAt}
use Rattle.legal_orders.proofs.BookAt.{books_at_are_one}
use Rattle.report_lines.specs.declared.line.Line.{Line}
use Rattle.report_lines.specs.Lines.{lines_at, error_in, error_at, is_error, any_error, book_of_lines}
use Rattle.reports.specs.Findings.{StandsBefore, IsFirstError, HasFirstErrorIn}
use Rattle.reports.specs.Errors.{SomeErrorIsFirst, FirstErrorsAreErrors, FirstErrorIsOne, WitnessIsOne}
use Rattle.reports.proofs.Errors.{no_error_in, no_error_of, first_of_all}

-- a caller's lines of which some are errors have a first error, with a seen cut
some_in : (own : List Line) → any_error own ≡ true → (cut : List ℕ) × HasFirstErrorIn own cut
some_in [] some = absurd cc
some_in (line ∷ own) some = elim (cases_Bool (is_error line)) [
  | inl is ↦ let cut = some_from_is_some (error_in line.end) is in
      (cut.0, (0, line, refl, cut.1, refl))
  | inr isnt ↦
      let later = some_in own
      (elim (or_cases (is_error line) (any_error own) some) as (λ _. any_error own ≡ true) [
        | inl is ↦ absurd cc
        | inr suffix ↦ suffix
      ]) in (
        later.0,
        (
          suc later.1.0,
          later.1.1,
          later.1.2,
          later.1.3,
          or_from (is_error line) (any_error (take later.1.0 own)) isnt later.1.4,
        ),
      )
]

-- where some caller has an error, there is a first caller that has one
some_caller : (lines : List (List Line)) → list_any any_error lines ≡ true → (i : ℕ)
    × (any_error (lines_at lines i) ≡ true) × (list_any any_error (take i lines) ≡ false)
some_caller [] some = absurd cc
some_caller (own ∷ lines) some = elim (cases_Bool (any_error own)) [
  | inl is ↦ (0, is, refl)
  | inr isnt ↦
      let later =
      some_caller lines (elim (or_cases (any_error own) (list_any any_error lines) some) as
      (λ _. list_any any_error lines ≡ true) [
        | inl is ↦ absurd cc
        | inr suffix ↦ suffix
      ]) in (
        suc later.0,
        later.1,
        or_from (any_error own) (list_any any_error (take later.0 lines)) isnt later.2,
      )
]

pub some_error_is_first : SomeErrorIsFirst
some_error_is_first lines some =
    let caller = some_caller lines some in
    let found = some_in (lines_at lines caller.0) caller.1 in
    (found.0, first_of_all lines caller.0 found.0 caller.2 found.1)

pub first_errors_are_errors : FirstErrorsAreErrors
first_errors_are_errors lines cut first = elim (cases_Bool (list_any any_error lines)) [
  | inl is ↦ is
  | inr isnt ↦
      let call = first.0 in
      let none : error_at lines call ≡ None =
      no_error_in (lines_at lines call.caller) call.number (no_error_of lines call.caller isnt) in
      absurd (none-some cut (sym none ∙ first.1.error))
]

-- no first error comes before another one
not_before : (lines : List (List Line)) (a b : Call) (x y : List ℕ) → IsFirstError lines a x
    → IsFirstError lines b y → StandsBefore a b → ⊥
not_before lines a b x y one other before = none-some x (sym (other.first a before) ∙ one.error)

pub first_error_is_one : FirstErrorIsOne
first_error_is_one lines a b x y one other =
    let caller : a.caller ≡ b.caller = elim (cases_lt a.caller b.caller) [
      | inl low ↦ absurd (not_before lines a b x y one other (inl low))
      | inr le ↦ elim (cases_lt b.caller a.caller) [
        | inl low ↦ absurd (not_before lines b a y x other one (inl low))
        | inr ge ↦ omega (arith, le, ge)
      ]
    ] in
    let number : a.number ≡ b.number = elim (cases_lt a.number b.number) [
      | inl low ↦ absurd (not_before lines a b x y one other (inr (caller, low)))
      | inr le ↦ elim (cases_lt b.number a.number) [
        | inl low ↦ absurd (not_before lines b a y x other one (inr (sym caller, low)))
        | inr ge ↦ omega (arith, le, ge)
      ]
    ] in
    let same : a ≡ b = same_call a b caller number in
    (same, same_Some x y (sym one.error ∙ (ap (error_at lines) same ∙ other.error)))

pub witness_is_one : WitnessIsOne
witness_is_one lines a b one other =
    let same =
    first_error_is_one lines one.call other.call one.cut other.cut one.error other.error in
    books_at_are_one (book_of_lines lines) one.cut a b one.at
    (subst (λ (cut : List ℕ). IsBookAt (book_of_lines lines) cut b) (sym same.1) other.at)
