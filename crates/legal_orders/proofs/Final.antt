-- An error is final: a legal order that is ended after the last call that is answered at a cut is a
-- legal order of the book at that cut.
use Rattle.std.proofs.Common.{◌≡◌, ℕ, zero, suc, ◌<◌, ◌≤◌, ◌∙◌, Bool, ltb, List, [], ◌∷◌, map, take, get_or, unwrap_or, refl, sym, ap, subst, inl, inr, arith}
use Rattle.std.proofs.lemmas.Bool.{cases_lt, ltb-true, lt-ltb}
use Rattle.std.proofs.lemmas.Option.{slice_get_within}
use Rattle.list_laws.proofs.Prefixes.{slice_get-take_within, slice_get-take_below, EndsAfterLast, ends_after_last}
use Rattle.list_laws.proofs.Places.{slice_get-take}
use Rattle.list_laws.proofs.Options.{some_from_is_some_and}
use Rattle.std.specs.Option.{IsSomeAnd}
use Rattle.std.proofs.lemmas.List.{take-map}
use Rattle.book_base.specs.declared.call.Call.{Call}
use Rattle.book_base.specs.declared.call.Record.{Record}
use Rattle.book_base.specs.declared.call.Place.{Place}
use Rattle.book_base.specs.SeqSpec.{SeqSpec}
use Rattle.book_base.specs.Book.{Page, answers_of, IsCall, IsAnswered, operation_of, record_of, IsValid, Precedes, answered}
use Rattle.book_base.specs.BookAt.{IsBookAt}
use Rattle.book_base.specs.Sequential.{IsRunFrom}
use Rattle.book_base.specs.Order.{call_at, StandsAt, step_at, IsLegalOrder}
use Rattle.legal_orders.proofs.LegalOrder.{answer_stands}
use Rattle.legal_orders.proofs.BookAt.{record_from_part, held_is_call}

-- a prefix of a run is a run
pub IsRunFrom-take : (next : List ℕ → ℕ → List ℕ × ℕ) (list : List ℕ) (n : ℕ) (steps : List (ℕ × ℕ))
    → IsRunFrom next list steps → IsRunFrom next list (take n steps)
IsRunFrom-take next list zero steps run = tt
IsRunFrom-take next list (suc n) [] run = tt
IsRunFrom-take next list (suc n) (step ∷ steps) run =
    (run.0, IsRunFrom-take next (next list step.0).0 n steps run.1)

-- a call is in a prefix of an order exactly where it is in the order at a place below the prefix's
-- length
stands_in_whole : (order : List Place) (n k : ℕ) (call : Call) → StandsAt (take n order) k call
    → StandsAt order k call
stands_in_whole order n k call s = (s.0, slice_get-take n order k s.0 s.1, s.2)

stands_below : (order : List Place) (n k : ℕ) (call : Call) → StandsAt (take n order) k call → k < n
stands_below order n k call s = slice_get-take_below n order k s.0 s.1

stands_in_prefix : (order : List Place) (n k : ℕ) (call : Call) → k < n → StandsAt order k call
    → StandsAt (take n order) k call
stands_in_prefix order n k call h s = (s.0, slice_get-take_within n order k h ∙ s.1, s.2)

-- the places of an order have the same operations and replies in two books that agree on the
-- operations of its calls
steps_in_part : (book part : List Page) (order : List Place)
    → ((k : ℕ) (call : Call) → StandsAt order k call
    → operation_of part call ≡ operation_of book call)
    → map (step_at part) order ≡ map (step_at book) order
steps_in_part book part [] same = refl
steps_in_part book part (place ∷ rest) same =
    let first : operation_of part (call_at place) ≡ operation_of book (call_at place) =
    same 0 (call_at place) (place, refl, refl) in
    let rests = steps_in_part book part rest (λ k call s. same (suc k) call s) in
    let step : step_at part place ≡ step_at book place =
    ap (λ o. (unwrap_or o 0, place.reply)) first in
    cc

-- where a call precedes another in the book at a cut, it does so in the book
pub precedes_from_part : (book : List Page) (cut : List ℕ) (part : List Page)
    → IsBookAt book cut part → (a b : Call) → Precedes part a b → Precedes book a b
precedes_from_part book cut part at a b p =
    elim p [
      | inl answered ↦
          let says : Record → Type 0 = λ r. get_or r.view b.caller 0 ≤ b.number in
          let known = some_from_is_some_and (record_of part a) says answered in
          let same : record_of part a ≡ record_of book a =
          known.1 ∙ sym (record_from_part book cut part at a known.0 known.1).1 in
          inl (subst (λ o. IsSomeAnd o says) same answered)
      | inr own ↦ inr own
    ]

-- the call of the place is answered in the part
abbrev is_answered_in : List Page → Place → Bool
is_answered_in part place = ltb place.number (answers_of part place.caller)

-- A call that a legal order has at or before a call that is answered at the cut is a call of the
-- book at the cut, since a call that no view of a record held by the cut holds is preceded by the
-- answered one.
call_of_part : (spec : SeqSpec) (book : List Page) (cut : List ℕ) (part : List Page)
    (order : List Place) → IsBookAt book cut part → IsLegalOrder spec book order
    → (j k : ℕ) (a b : Call) → k ≤ j → StandsAt order j a → IsAnswered part a → StandsAt order k b
    → IsCall part b
call_of_part spec book cut part order at legal j k a b le stands known there =
    let found = answer_stands part a known in
    let was = record_from_part book cut part at a found.0 found.1 in
    elim (cases_lt b.number (get_or found.0.view b.caller 0)) [
      | inl held ↦ (at.calls b).1 (a, found.0, was.0, was.1, held)
      | inr out ↦
          let says : Record → Type 0 = λ r. get_or r.view b.caller 0 ≤ b.number in
          let lacks : IsSomeAnd (record_of book a) says =
          subst (λ o. IsSomeAnd o says) (sym was.1) out in
          let before : j < k = legal.precedence j k a b stands there (inl lacks) in
          absurd (omega arith)
    ]

-- A legal order that ends after the last call that is answered in the book at a cut is a legal
-- order of that book.
pub ended_order_is_legal : (spec : SeqSpec) (book : List Page) (cut : List ℕ) (part : List Page)
    (order : List Place) (n : ℕ) → IsBookAt book cut part → IsLegalOrder spec book order
    → EndsAfterLast (is_answered_in part) order n → IsLegalOrder spec part (take n order)
ended_order_is_legal spec book cut part order n at legal ends =
    let is_call : (k : ℕ) (call : Call) → StandsAt (take n order) k call → IsCall part call
    = λ (k : ℕ) (call : Call) (s : StandsAt (take n order) k call).
    let last = ends.last k (stands_below order n k call s) in
    call_of_part spec book cut part order at legal last.0 k (call_at last.1) call last.2
    (last.1, last.4, refl)
    (ltb-true last.1.number (answers_of part last.1.caller) last.5)
    (stands_in_whole order n k call s) in
    let same : map (step_at part) (take n order) ≡ map (step_at book) (take n order)
    = steps_in_part book part (take n order)
    (λ (k : ℕ) (call : Call) (s : StandsAt (take n order) k call).
    at.operations call (is_call k call s)) in
    let run : IsRunFrom spec.next spec.init (map (step_at book) (take n order))
    = subst (IsRunFrom spec.next spec.init) (take-map (step_at book) n order)
    (IsRunFrom-take spec.next spec.init n (map (step_at book) order) legal.run) in
    record {
      calls = is_call;
      once = λ j k call s t.
          legal.once j k call (stands_in_whole order n j call s) (stands_in_whole order n k call t);
      earlier = λ k call s number less.
          let it : Call = record { caller = call.caller; number = number } in
          let found = legal.earlier k call (stands_in_whole order n k call s) number less in (
            found.0,
            found.1,
            stands_in_prefix order n found.0 it
                (omega (arith, found.1, stands_below order n k call s)) found.2,
          );
      answered = λ call r known.
          let it : Place = record { caller = call.caller; number = call.number; reply = r.reply } in
          let found = legal.answered call r (record_from_part book cut part at call r known).1 in
          let there : found.0 < n = ends.all found.0 it found.1 (lt-ltb call.number
          (answers_of part call.caller) (slice_get_within _ call.number r known)) in
          (found.0, slice_get-take_within n order found.0 there ∙ found.1);
      run = subst (IsRunFrom spec.next spec.init) (sym same) run;
      precedence = λ j k a b s t p.
          legal.precedence j k a b (stands_in_whole order n j a s) (stands_in_whole order n k b t)
          (precedes_from_part book cut part at a b p);
    }

-- Some prefix of a legal order is a legal order of the book at a cut.
pub some_prefix_is_legal : (spec : SeqSpec) (book : List Page) (cut : List ℕ) (part : List Page)
    (order : List Place) → IsBookAt book cut part → IsLegalOrder spec book order → (n : ℕ)
    × IsLegalOrder spec part (take n order)
some_prefix_is_legal spec book cut part order at legal =
    let found = ends_after_last (is_answered_in part) order in
    (found.0, ended_order_is_legal spec book cut part order found.0 at legal found.1)

-- A legal order of the book at a cut that holds all records is one of the book.
pub whole_order_is_legal : (spec : SeqSpec) (book : List Page) (cut : List ℕ) (part : List Page)
    (order : List Place) → IsValid book → IsBookAt book cut part
    → ((call : Call) → record_of part call ≡ record_of book call) → IsLegalOrder spec part order
    → IsLegalOrder spec book order
whole_order_is_legal spec book cut part order valid at same legal = record {
  calls = λ k call s. held_is_call book cut call valid ((at.calls call).0 (legal.calls k call s));
  once = legal.once;
  earlier = legal.earlier;
  answered = λ call r known. legal.answered call r (same call ∙ known);
  run = subst (IsRunFrom spec.next spec.init) (steps_in_part book part order
      (λ k call s. at.operations call (legal.calls k call s))) legal.run;
  precedence = λ j k a b s t p. legal.precedence j k a b s t (elim p [
    | inl answered ↦ inl (subst (λ o. IsSomeAnd o (λ r. get_or r.view b.caller 0 ≤ b.number))
        (sym (same a)) answered)
    | inr own ↦ inr own
  ]);
}
