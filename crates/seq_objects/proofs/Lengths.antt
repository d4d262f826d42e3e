-- How many places a legal order has at most.
use Rattle.std.proofs.Common.{◌≡◌, ℕ, ◌+◌, ◌*◌, ◌<◌, ◌≤◌, List, length, inl, inr, refl, sym, subst, arith}
use Rattle.std.proofs.lemmas.Option.{slice_get_cases}
use Rattle.list_laws.proofs.Pigeonhole.{pigeonhole}
use Rattle.book_base.specs.declared.call.Call.{Call}
use Rattle.book_base.specs.declared.call.Place.{Place}
use Rattle.book_base.specs.declared.TheConstants.{MAX_CALLERS, MAX_CALLS}
use Rattle.book_base.specs.SeqSpec.{SeqSpec}
use Rattle.book_base.specs.Book.{Page, IsSmall, IsCall}
use Rattle.book_base.specs.Order.{call_at, StandsAt, IsLegalOrder}
use Rattle.book_base.proofs.ViewLemmas.{same_call}
use Rattle.book_base.proofs.PageLemmas.{caller_from_call}

-- An order has, at this index, the call with this code.
abbrev StandsWithCode : List Place → ℕ → ℕ → Type 0
StandsWithCode order k code = (call : Call) × StandsAt order k call × (call.number < MAX_CALLS)
    × (call.caller * MAX_CALLS + call.number ≡ code)

-- A legal order of a small book has no more places than the greatest book has calls.
pub order_is_short : (spec : SeqSpec) (book : List Page) (order : List Place) → IsSmall book
    → IsLegalOrder spec book order → length order ≤ MAX_CALLERS * MAX_CALLS
order_is_short spec book order small legal =
    pigeonhole (StandsWithCode order) (length order) (MAX_CALLERS * MAX_CALLS)
    (λ k inside. elim (slice_get_cases order k).1 [
      | inl found ↦
          let place : Place = found.0 in
          let call : Call = call_at place in
          let stands : StandsAt order k call = (place, found.2, refl) in
          let made : IsCall book call = legal.calls k call stands in
          let numbers : call.number < MAX_CALLS = omega (arith, made, small.calls call.caller) in
          let callers : call.caller < MAX_CALLERS =
          (let there = caller_from_call book call.caller call.number made in
          omega (arith, there, small.callers)) in (
            call.caller * MAX_CALLS + call.number,
            omega (arith, numbers, callers),
            (call, stands, numbers, refl),
          )
      | inr past ↦ absurd (omega (arith, inside, past.0))
    ])
    (λ j k code a b.
    let caller : a.0.caller ≡ b.0.caller = omega (arith, a.2, a.3, b.2, b.3) in
    let number : a.0.number ≡ b.0.number = omega (arith, a.2, a.3, b.2, b.3) in
    legal.once j k a.0 a.1
    (subst (λ (c : Call). StandsAt order k c) (sym (same_call a.0 b.0 caller number)) b.1))
