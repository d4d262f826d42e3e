-- The calls that a view holds: those of an order up to the view's own call are among them, each
-- with a number of its own.
use Rattle.std.proofs.Common.{◌≡◌, ◌∙◌, ℕ, zero, suc, ◌+◌, ◌<◌, ◌≤◌, List, [], ◌∷◌, length, take, get_or, sum, Option, Some, slice_index, refl, sym, ap, subst, inl, inr, arith}
use Rattle.std.specs.Prelude.{IsSomeAnd}
use Rattle.std.proofs.lemmas.Bool.{cases_lt, cases_order}
use Rattle.std.proofs.lemmas.List.{get_or_past}
use Rattle.std.proofs.lemmas.List.Sums.{sum_by-cons, sum_by_more, sum_by-take-le}
use Rattle.std.proofs.lemmas.Option.{slice_get_cases, slice_get_within}
use Rattle.list_laws.proofs.Pigeonhole.{pigeonhole}
use Rattle.book_base.specs.declared.call.Call.{Call}
use Rattle.book_base.specs.declared.call.Place.{Place}
use Rattle.book_base.specs.declared.call.Record.{Record}
use Rattle.book_base.specs.SeqSpec.{SeqSpec}
use Rattle.book_base.specs.Cut.{Holds}
use Rattle.book_base.specs.Book.{Page, record_of, Precedes}
use Rattle.book_base.specs.Order.{call_at, StandsAt, IsLegalOrder}
use Rattle.book_base.proofs.ViewLemmas.{same_call}

-- a count that isn't 0 is one of the list's
is_inside : (xs : List ℕ) (i n : ℕ) → n < get_or xs i 0 → i < length xs
is_inside xs i n lt = elim (cases_lt i (length xs)) [
  | inl fine ↦ fine
  | inr past ↦ absurd (omega (arith, lt, get_or_past xs i 0 past))
]

-- the calls that a view holds of the callers up to one are those of the callers before, and of this
-- one
with_own : (view : List ℕ) (i n : ℕ) → n < get_or view i 0
    → sum (take (i + 1) view) ≡ sum (take i view) + get_or view i 0
with_own view i n lt = sum_by_more (λ (m : ℕ). m) view i 0 (is_inside view i n lt)

-- the sums of the first counts rise
sums_rise : (view : List ℕ) (i j : ℕ) → i ≤ j → sum (take i view) ≤ sum (take j view)
sums_rise view zero j le = omega arith
sums_rise view (suc i) zero le = absurd (omega (arith, le))
sums_rise [] (suc i) (suc j) le = omega arith
sums_rise (x ∷ xs) (suc i) (suc j) le = omega (
  arith,
  sums_rise xs i j (omega (arith, le)),
  sum_by-cons (λ (m : ℕ). m) x (take i xs),
  sum_by-cons (λ (m : ℕ). m) x (take j xs),
)

-- The calls of a view are numbered: by how many it holds of the callers before, and by their own
-- numbers. So those of two callers have different numbers.
one_caller : (view : List ℕ) (i j x y : ℕ) → x < get_or view i 0 → y < get_or view j 0
    → sum (take i view) + x ≡ sum (take j view) + y → i ≡ j
one_caller view i j x y below_x below_y same = elim (cases_order i j) [
  | inl here ↦ here
  | inr differ ↦ elim differ [
    | inl lt ↦ absurd (omega (
      arith,
      same,
      below_x,
      with_own view i x below_x,
      sums_rise view (i + 1) j (omega (arith, lt)),
    ))
    | inr gt ↦ absurd (omega (
      arith,
      same,
      below_y,
      with_own view j y below_y,
      sums_rise view (j + 1) i (omega (arith, gt)),
    ))
  ]
]

-- the call at this index of an order is one of the view, and has this number there
abbrev IsNumbered : List Place → List ℕ → ℕ → ℕ → Type 0
IsNumbered order view k code = (call : Call) × StandsAt order k call × Holds view call
    × (sum (take call.caller view) + call.number ≡ code)

-- At most as many other calls come before a call in a legal order as its view holds.
pub sees_what_stands_before : (spec : SeqSpec) (book : List Page) (order : List Place)
    → IsLegalOrder spec book order → (call : Call) (r : Record) → record_of book call ≡ Some r
    → (m : ℕ) → StandsAt order m call → m < sum r.view
sees_what_stands_before spec book order legal one r answered m stands =
    let view : List ℕ = r.view in
    let here : m < length order = slice_get_within order m stands.0 stands.1 in
    let most : suc m ≤ sum view = pigeonhole (IsNumbered order view) (suc m) (sum view)
    (λ k below. elim (slice_get_cases order k).1 [
      | inr past ↦ absurd (omega (arith, below, here, past.0))
      | inl found ↦
          let place : Place = found.0 in
          let call : Call = call_at place in
          let at : StandsAt order k call = (place, found.2, refl) in
          let held : call.number < slice_index view call.caller =
          elim (cases_lt call.number (slice_index view call.caller)) [
            | inl fine ↦ fine
            | inr past ↦
                let precedes : Precedes book one call =
                inl (subst (λ (o : Option Record). IsSomeAnd o
                (λ s. slice_index s.view call.caller ≤ call.number)) (sym answered) past) in
                let late : m < k = legal.precedence m k one call stands at precedes in
                absurd (omega (arith, late, below))
          ] in (
            sum (take call.caller view) + call.number,
            omega (
              arith,
              held,
              with_own view call.caller call.number held,
              sum_by-take-le (λ (n : ℕ). n) view (call.caller + 1),
            ),
            (call, at, held, refl),
          )
    ])
    (λ j k code a b.
    let caller : a.0.caller ≡ b.0.caller =
    one_caller view a.0.caller b.0.caller a.0.number b.0.number a.2 b.2 (a.3 ∙ sym b.3) in
    let number : a.0.number ≡ b.0.number =
    omega (arith, a.3, b.3, ap (λ (i : ℕ). sum (take i view)) caller) in
    legal.once j k a.0 a.1
    (subst (λ (c : Call). StandsAt order k c) (sym (same_call a.0 b.0 caller number)) b.1)) in
    omega (arith, most)
