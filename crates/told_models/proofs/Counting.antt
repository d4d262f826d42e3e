-- A legal order has no more places than its book has calls.
use Rattle.std.proofs.Common.{◌≡◌, ℕ, zero, suc, ◌+◌, ◌<◌, ◌≤◌, List, [], length, sum_by, take, refl, sym, ap, subst, ◌∙◌, inl, inr, arith}
use Rattle.std.proofs.lemmas.Bool.{cases_lt}
use Rattle.std.proofs.lemmas.List.{take_all}
use Rattle.std.proofs.lemmas.List.Sums.{sum_by_more}
use Rattle.std.proofs.lemmas.Option.{slice_get_cases}
use Rattle.list_laws.proofs.Pigeonhole.{pigeonhole}
use Rattle.book_base.specs.declared.call.Call.{Call}
use Rattle.book_base.specs.declared.call.Place.{Place}
use Rattle.book_base.specs.SeqSpec.{SeqSpec}
use Rattle.book_base.specs.Book.{Page, IsCall, calls_of}
use Rattle.book_base.specs.Order.{call_at, StandsAt, IsLegalOrder}
use Rattle.book_base.proofs.ViewLemmas.{same_call}
use Rattle.book_base.proofs.PageLemmas.{caller_from_call}
use Rattle.told_models.specs.Closed.{number_of_calls}

-- how many calls the callers below this one have
calls_before : List Page → ℕ → ℕ
calls_before book i = sum_by (λ page. length page.operations) (take i book)

-- the calls of the callers below this one and its own calls are those of the callers below the next
calls_before-more : (book : List Page) (i : ℕ) → i < length book
    → calls_before book (i + 1) ≡ calls_before book i + calls_of book i
unfolding calls_before
calls_before-more book i inside = sum_by_more (λ (page : Page). length page.operations) book i
    (record { operations = []; records = [] }) inside

-- fewer callers have no more calls
calls_before-within : (book : List Page) (i j : ℕ) → i ≤ j → j ≤ length book
    → calls_before book i ≤ calls_before book j
calls_before-within book i zero less inside =
    let same : i ≡ 0 = omega arith in
    subst (λ (k : ℕ). calls_before book k ≤ calls_before book 0) (sym same) (omega arith)
calls_before-within book i (suc j) less inside = elim (cases_lt i (j + 1)) [
  | inl earlier ↦
      let next : suc j ≡ j + 1 = omega arith in
      omega (
        arith,
        calls_before-within book i j (omega arith) (omega arith),
        calls_before-more book j (omega arith),
        ap (calls_before book) next,
      )
  | inr later ↦
      let same : i ≡ suc j = omega arith in
      subst (λ (k : ℕ). calls_before book k ≤ calls_before book (suc j)) (sym same) (omega arith)
]

calls_before-all : (book : List Page) → calls_before book (length book) ≡ number_of_calls book
unfolding calls_before
calls_before-all book =
    ap (sum_by (λ (page : Page). length page.operations))
    (take_all (length book) book (omega arith))

-- An order has, at this index, the call of a book with this number among all its calls.
StandsWithNumber : List Page → List Place → ℕ → ℕ → Type 0
StandsWithNumber book order k number = (call : Call) × StandsAt order k call × IsCall book call
    × (call.caller < length book) × (calls_before book call.caller + call.number ≡ number)

-- a number among all calls is one call's
same_number : (book : List Page) (i j m n : ℕ) → m < calls_of book i → i < length book
    → j < length book → calls_before book i + m ≡ calls_before book j + n → j ≤ i
same_number book i j m n made inside other same = elim (cases_lt i j) [
  | inr at_least ↦ at_least
  | inl earlier ↦
      absurd (omega (
        arith,
        same,
        made,
        calls_before-more book i inside,
        calls_before-within book (i + 1) j (omega arith) (omega arith),
      ))
]

pub order-bounded : (spec : SeqSpec) (book : List Page) (order : List Place)
    → IsLegalOrder spec book order → length order ≤ number_of_calls book
unfolding StandsWithNumber
order-bounded spec book order legal =
    pigeonhole (StandsWithNumber book order) (length order) (number_of_calls book)
    (λ k inside. elim (slice_get_cases order k).1 [
      | inl found ↦
          let call : Call = call_at found.0 in
          let stands : StandsAt order k call = (found.0, found.2, refl) in
          let made : IsCall book call = legal.calls k call stands in
          let caller = caller_from_call book call.caller call.number made in (
            calls_before book call.caller + call.number,
            omega (
              arith,
              made,
              calls_before-more book call.caller caller,
              calls_before-within book (call.caller + 1) (length book) (omega (arith, caller))
                  (omega arith),
              calls_before-all book,
            ),
            (call, stands, made, caller, refl),
          )
      | inr past ↦ absurd (omega (arith, inside, past.0))
    ])
    (λ j k number a b.
    let up = same_number book a.0.caller b.0.caller a.0.number b.0.number a.2 a.3 b.3
    (a.4 ∙ sym b.4) in
    let down = same_number book b.0.caller a.0.caller b.0.number a.0.number b.2 b.3 a.3
    (b.4 ∙ sym a.4) in
    let caller : a.0.caller ≡ b.0.caller = omega (arith, up, down) in
    let before = ap (calls_before book) caller in
    let number_is : a.0.number ≡ b.0.number = omega (arith, a.4, b.4, before) in
    legal.once j k a.0 a.1
    (subst (λ (c : Call). StandsAt order k c) (sym (same_call a.0 b.0 caller number_is)) b.1))
