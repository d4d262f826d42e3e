-- The calls whose operations are the steps of a legal order, and which stand before others.
use Rattle.std.proofs.Common.{◌≡◌, ◌⊎◌, ◌∙◌, ℕ, ◌<◌, ◌≤◌, List, get_or, unwrap_or, Option, Some, refl, sym, ap, subst, inl, inr, slice_get}
use Rattle.std.proofs.lemmas.Option.{same_Some, none-some}
use Rattle.list_laws.proofs.Options.{cases_Option, some_from_is_some_and}
use Rattle.book_base.specs.declared.call.Call.{Call}
use Rattle.book_base.specs.declared.call.Place.{Place}
use Rattle.book_base.specs.declared.call.Record.{Record}
use Rattle.book_base.specs.SeqSpec.{SeqSpec}
use Rattle.book_base.specs.Book.{Page, IsCall, Precedes, operation_of, record_of}
use Rattle.book_base.specs.Order.{call_at, StandsAt, IsLegalOrder}
use Rattle.legal_orders.specs.Container.{Effect, Puts, Takes, Neither, Reading, value_taken, put_by, taken_by}
use Rattle.legal_orders.proofs.Orders.{steps_of, place_of_step, has_operation, call_of_put}
use Rattle.legal_orders.specs.Deals as deals
use Rattle.legal_orders.specs.Deals.{shown_deal, recorded_deal, deal_by_deed, deal_by_operation, deal_of}
use Rattle.legal_orders.proofs.Dealing.{deal_of_put}

-- an effect by which a value is taken out is a take, and this value is the one that the reply shows
taken_from_value : (deed : Effect) (shown : Option ℕ) (v : ℕ) → value_taken deed shown ≡ Some v
    → (deed ≡ Takes) × (shown ≡ Some v)
taken_from_value (Puts w) shown v e = absurd (none-some v e)
taken_from_value Takes shown v e = (refl, e)
taken_from_value Neither shown v e = absurd (none-some v e)

-- The place of an answered call in a legal order has the recorded reply.
pub reply_of_place : (spec : SeqSpec) (book : List Page) (order : List Place)
    → IsLegalOrder spec book order → (k : ℕ) (place : Place) → slice_get order k ≡ Some place
    → (r : Record) → record_of book (call_at place) ≡ Some r → r.reply ≡ place.reply
reply_of_place spec book order legal k place at r answered =
    let call : Call = call_at place in
    let it : Place = record { caller = call.caller; number = call.number; reply = r.reply } in
    let found = legal.answered call r answered in
    let same_place : found.0 ≡ k =
    legal.once found.0 k call (it, found.1, refl) (place, at, refl) in
    let one : it ≡ place =
    same_Some it place (sym found.1 ∙ (ap (slice_get order) same_place ∙ at)) in
    ap (λ (p : Place). p.reply) one

-- A call that precedes another one stands before it in each legal order where the other one stands.
pub preceding_comes_first : (spec : SeqSpec) (book : List Page) (a b : Call) → Precedes book a b
    → (order : List Place) → IsLegalOrder spec book order → (q : ℕ) → StandsAt order q b → (p : ℕ)
    × (p < q) × StandsAt order p a
preceding_comes_first spec book a b precedes order legal q stands =
    elim precedes [
      | inl answered ↦
          let says : Record → Type 0 = λ r. get_or r.view b.caller 0 ≤ b.number in
          let known = some_from_is_some_and (record_of book a) says answered in
          let found = legal.answered a known.0 known.1 in
          let there : StandsAt order found.0 a =
          (record { caller = a.caller; number = a.number; reply = known.0.reply }, found.1, refl) in
          (found.0, legal.precedence found.0 q a b there stands (inl answered), there)
      | inr own ↦
          let found = legal.earlier q b stands a.number own.1 in (
            found.0,
            found.1,
            subst (λ (i : ℕ). StandsAt order found.0 (record { caller = i; number = a.number }))
                (sym own.0) found.2,
          )
    ]

-- A step that takes out a value is the operation of a call that takes it, or of a take without an
-- answer.
pub taker_of_step : (reading : Reading) (spec : SeqSpec) (book : List Page) (order : List Place)
    → IsLegalOrder spec book order → (k v : ℕ) (step : ℕ × ℕ)
    → slice_get (steps_of book order) k ≡ Some step → taken_by reading step ≡ Some v → (call : Call)
    × StandsAt order k call × IsCall book call
    × ((deal_of reading book call ≡ deals.Took v) ⊎ (deal_of reading book call ≡ deals.OpenTake))
taker_of_step reading spec book order legal k v step e is =
    let place = place_of_step book order k step e in
    let call : Call = call_at place.0 in
    let stands : StandsAt order k call = (place.0, place.1, refl) in
    let made : IsCall book call = legal.calls k call stands in
    let word : ℕ = unwrap_or (operation_of book call) 0 in
    let known : operation_of book call ≡ Some word = has_operation book call made in
    let parts = taken_from_value (reading.deed step.0) (reading.shown step.1) v is in
    let deed : reading.deed word ≡ Takes = ap (λ (s : ℕ × ℕ). reading.deed s.0) place.2 ∙ parts.0 in
    let deal : deal_of reading book call ≡ recorded_deal reading (record_of book call)
    = ap (deal_by_operation reading book call) known ∙ ap (deal_by_deed reading book call) deed in
    elim (cases_Option (record_of book call)) [
      | inl none ↦ (call, stands, made, inr (deal ∙ ap (recorded_deal reading) none))
      | inr answer ↦
          let reply : answer.0.reply ≡ step.1 =
          reply_of_place spec book order legal k place.0 place.1 answer.0 answer.1
          ∙ ap (λ (s : ℕ × ℕ). s.1) place.2 in
          let shown : reading.shown answer.0.reply ≡ Some v = ap reading.shown reply ∙ parts.1 in (
            call,
            stands,
            made,
            inl (deal ∙ (ap (recorded_deal reading) answer.1 ∙ ap shown_deal shown)),
          )
    ]

-- A step that puts in a value is the operation of a call that puts in this value.
pub putter_of_step : (reading : Reading) (spec : SeqSpec) (book : List Page) (order : List Place)
    → IsLegalOrder spec book order → (k v : ℕ) (step : ℕ × ℕ)
    → slice_get (steps_of book order) k ≡ Some step → put_by reading step ≡ Some v → (call : Call)
    × StandsAt order k call × IsCall book call × (deal_of reading book call ≡ deals.Put v)
putter_of_step reading spec book order legal k v step e is =
    let putter = call_of_put reading spec book order legal k v step e is in (
      putter.0,
      putter.1,
      legal.calls k putter.0 putter.1,
      deal_of_put reading book putter.0 v putter.2,
    )
