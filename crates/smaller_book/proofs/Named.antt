-- Calls whose numbers are in a caller's row.
use Rattle.std.proofs.Common.{◌≡◌, ℕ, ◌<◌, ◌==◌, ◌∙◌, true, List, length, get_or, sym, subst}
use Rattle.std.specs.List.{list_any}
use Rattle.std.proofs.lemmas.Bool.{eqb-true, eq-eqb}
use Rattle.std.proofs.lemmas.Grind.{get_or_default_zero}
use Rattle.std.proofs.lemmas.List.Folds.{Any-from_list_any, list_any_at}
use Rattle.book_base.specs.declared.call.Call.{Call}
use Rattle.smaller_book.specs.Part.{numbers_of, IsNamed}

-- A call is named where a test finds its number in its caller's row.
pub named_if_found : (names : List (List ℕ)) (call : Call) (row : List ℕ)
    → numbers_of names call.caller ≡ row → list_any (λ y. y == call.number) row ≡ true
    → IsNamed names call
named_if_found names call row is found =
    let any = Any-from_list_any (λ y. y == call.number) row found in
    subst (λ numbers. (k : ℕ) × (k < length numbers) × (get_or numbers k 0 ≡ call.number)) (sym is) (
      any.0,
      any.2,
      sym (get_or_default_zero row any.0 any.1 any.2) ∙ any.3
          ∙ eqb-true any.1 call.number any.4,
    )

-- A test finds the number of a call that is named.
pub found_if_named : (names : List (List ℕ)) (call : Call) (row : List ℕ)
    → numbers_of names call.caller ≡ row → IsNamed names call
    → list_any (λ y. y == call.number) row ≡ true
found_if_named names call row is named =
    let here : (k : ℕ) × (k < length row) × (get_or row k 0 ≡ call.number) =
    subst (λ numbers. (k : ℕ) × (k < length numbers) × (get_or numbers k 0 ≡ call.number)) is
    named in
    list_any_at (λ y. y == call.number) row here.0 0 here.1
    (eq-eqb (get_or row here.0 0) call.number here.2)
