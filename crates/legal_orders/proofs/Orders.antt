-- Legal orders as runs: each place is a step of the run, and the calls that put in and take out are
-- at the places of the steps that do.
use Rattle.std.proofs.Common.{◌≡◌, ℕ, zero, suc, ◌∙◌, List, [], ◌∷◌, map, get_or, unwrap_or, Option, Some, refl, sym, ap, subst, slice_get}
use Rattle.std.proofs.lemmas.Option.{same_Some, none-some, slice_get-get_or}
use Rattle.book_base.specs.declared.call.Call.{Call}
use Rattle.book_base.specs.declared.call.Place.{Place}
use Rattle.book_base.specs.SeqSpec.{SeqSpec}
use Rattle.book_base.specs.Book.{Page, page_of, IsCall, operation_of}
use Rattle.book_base.specs.Order.{call_at, StandsAt, step_at, IsLegalOrder}
use Rattle.legal_orders.specs.Container.{Effect, Puts, Takes, Neither, Reading, value_put, value_taken, put_by}
use Rattle.legal_orders.specs.Calls.{PutsIn, PutsInAlone, TakesShowing}

-- the steps of an order
abbrev pub steps_of : List Page → List Place → List (ℕ × ℕ)
steps_of book order = map (step_at book) order

-- the step at a place of the run is the one of the order's place
pub step_stands : (book : List Page) (order : List Place) (k : ℕ) (place : Place)
    → slice_get order k ≡ Some place → slice_get (steps_of book order) k ≡ Some (step_at book place)
step_stands book [] k place e = absurd (none-some place e)
step_stands book (first ∷ rest) zero place e =
    ap (λ (p : Place). Some (step_at book p)) (same_Some first place e)
step_stands book (first ∷ rest) (suc k) place e = step_stands book rest k place e

pub place_of_step : (book : List Page) (order : List Place) (k : ℕ) (step : ℕ × ℕ)
    → slice_get (steps_of book order) k ≡ Some step
    → (place : Place) × (slice_get order k ≡ Some place) × (step_at book place ≡ step)
place_of_step book [] k step e = absurd (none-some step e)
place_of_step book (first ∷ rest) zero step e = (first, refl, same_Some (step_at book first) step e)
place_of_step book (first ∷ rest) (suc k) step e = place_of_step book rest k step e

-- an effect with a value that it puts in is the put of this value, and one with a value that it
-- takes out is a take
put_from_value : (deed : Effect) (v : ℕ) → value_put deed ≡ Some v → deed ≡ Puts v
put_from_value (Puts w) v e = ap Puts (same_Some w v e)
put_from_value Takes v e = absurd (none-some v e)
put_from_value Neither v e = absurd (none-some v e)

-- a call of the book has an operation
pub has_operation : (book : List Page) (call : Call) → IsCall book call
    → operation_of book call ≡ Some (unwrap_or (operation_of book call) 0)
has_operation book call h =
    let there : operation_of book call
    ≡ Some (get_or (page_of book call.caller).operations call.number 0) =
    slice_get-get_or (page_of book call.caller).operations call.number 0 h in
    there ∙ ap (λ (o : Option ℕ). Some (unwrap_or o 0)) (sym there)

-- an answered take is at some place of a legal order, and the step there is a take that shows what
-- the call's reply shows
pub answered_step : (reading : Reading) (spec : SeqSpec) (book : List Page) (order : List Place)
    → IsLegalOrder spec book order → (call : Call) (shown : Option ℕ)
    → TakesShowing reading book call shown → (k : ℕ) × (step : ℕ × ℕ) × StandsAt order k call
    × (slice_get (steps_of book order) k ≡ Some step) × (reading.deed step.0 ≡ Takes)
    × (reading.shown step.1 ≡ shown)
answered_step reading spec book order legal call shown h =
    let place : Place = record { caller = call.caller; number = call.number; reply = h.1.reply } in
    let found = legal.answered call h.1 h.3 in
    let op : (step_at book place).0 ≡ h.0 = ap (λ (o : Option ℕ). unwrap_or o 0) h.2 in (
      found.0,
      step_at book place,
      (place, found.1, refl),
      step_stands book order found.0 place found.1,
      ap reading.deed op ∙ h.4,
      h.5,
    )

-- the step at the place of a call that puts in a value puts it in
pub putting_step : (reading : Reading) (book : List Page) (order : List Place) (call : Call)
    (v k : ℕ) → PutsIn reading book call v → StandsAt order k call
    → (step : ℕ × ℕ) × (slice_get (steps_of book order) k ≡ Some step)
    × (reading.deed step.0 ≡ Puts v)
putting_step reading book order call v k h s =
    let op : (step_at book s.0).0 ≡ h.0 = ap (λ (c : Call). unwrap_or (operation_of book c) 0) s.2
    ∙ ap (λ (o : Option ℕ). unwrap_or o 0) h.1 in
    (step_at book s.0, step_stands book order k s.0 s.1, ap reading.deed op ∙ h.2)

-- a step that puts in a value belongs to a call that puts it in
pub call_of_put : (reading : Reading) (spec : SeqSpec) (book : List Page) (order : List Place)
    → IsLegalOrder spec book order → (k v : ℕ) (step : ℕ × ℕ)
    → slice_get (steps_of book order) k ≡ Some step → put_by reading step ≡ Some v → (call : Call)
    × StandsAt order k call × PutsIn reading book call v
call_of_put reading spec book order legal k v step e is =
    let place = place_of_step book order k step e in
    let call : Call = call_at place.0 in
    let stands : StandsAt order k call = (place.0, place.1, refl) in
    let op : (step_at book place.0).0 ≡ step.0 = ap (λ (s : ℕ × ℕ). s.0) place.2 in (
      call,
      stands,
      (
        unwrap_or (operation_of book call) 0,
        has_operation book call (legal.calls k call stands),
        ap reading.deed op ∙ put_from_value (reading.deed step.0) v is,
      ),
    )

-- a step that puts in a value is at the place of the only call that does
pub put_alone : (reading : Reading) (spec : SeqSpec) (book : List Page) (order : List Place)
    → IsLegalOrder spec book order → (call : Call) (v : ℕ) → PutsInAlone reading book call v
    → (k : ℕ) (step : ℕ × ℕ) → slice_get (steps_of book order) k ≡ Some step
    → put_by reading step ≡ Some v → StandsAt order k call
put_alone reading spec book order legal call v alone k step e is =
    let found = call_of_put reading spec book order legal k v step e is in
    subst (StandsAt order k) (alone.1 found.0 found.2) found.1

pub put_at_one_place : (reading : Reading) (spec : SeqSpec) (book : List Page) (order : List Place)
    → IsLegalOrder spec book order → (call : Call) (v q : ℕ) → PutsInAlone reading book call v
    → StandsAt order q call → (k : ℕ) (step : ℕ × ℕ) → slice_get (steps_of book order) k ≡ Some step
    → put_by reading step ≡ Some v → k ≡ q
put_at_one_place reading spec book order legal call v q alone stands k step e is =
    legal.once k q call
    (put_alone reading spec book order legal call v alone k step e is) stands
