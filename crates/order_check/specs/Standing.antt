-- A list of places, tried one place after another.
use Rattle.std.specs.Prelude.{◌≡◌, ℕ, ◌+◌, ◌<◌, List, length, Some, slice_get}
use Rattle.book_base.specs.declared.call.Call.{Call}
use Rattle.book_base.specs.declared.call.Record.{Record}
use Rattle.book_base.specs.declared.call.Place.{Place}
use Rattle.book_base.specs.SeqSpec.{SeqSpec}
use Rattle.book_base.specs.Cut.{Holds}
use Rattle.book_base.specs.Book.{Page, IsCall, record_of, Precedes}
use Rattle.book_base.specs.Order.{call_at, StandsAt}
use Rattle.order_check.specs.declared.fault.OrderFault.{OrderFault}
use Rattle.order_check.specs.Fault.{FailsTest, place_of, HasTurnBefore}

-- The calls at the places before place p are calls of the book, and exactly those that the cut
-- `standing` holds.
pub record IsStanding (book : List Page) (order : List Place) (p : ℕ)
    (standing : List ℕ) : Type 0 where
  pub wide : length standing ≡ length book
  pub calls : (j : ℕ) (call : Call) → j < p → StandsAt order j call → IsCall book call
  pub held : (call : Call) → Holds standing call → (j : ℕ) × (j < p) × StandsAt order j call
  pub stands : (j : ℕ) (call : Call) → j < p → StandsAt order j call → Holds standing call

-- The call at place p may stand there after the calls before it, by the tests on calls and records.
-- What the object replies isn't looked at.
pub record IsInPlace (book : List Page) (order : List Place) (p : ℕ) : Type 0 where
  -- the call at place p is a call of the book
  pub known : (call : Call) → StandsAt order p call → IsCall book call
  -- the call at place p stands at no earlier place
  pub once : (j : ℕ) (call : Call) → StandsAt order p call → j < p → StandsAt order j call → ⊥
  -- the previous call of the caller at place p, where there is one, stands at an earlier place
  pub in_turn : (call : Call) → StandsAt order p call → (number : ℕ) → number + 1 ≡ call.number
      → (j : ℕ) × (j < p) × StandsAt order j (record { caller = call.caller; number = number })
  -- the call at place p precedes no call at an earlier place
  pub in_time : (j : ℕ) (a b : Call) → StandsAt order p a → j < p → StandsAt order j b
      → Precedes book a b → ⊥
  -- place p has the recorded reply of its call, where the call is answered
  pub recorded : (place : Place) (r : Record) → slice_get order p ≡ Some place
      → record_of book (call_at place) ≡ Some r → r.reply ≡ place.reply

-- The fault names the first of the tests of place p that the list fails.
pub record IsFirstAt (spec : SeqSpec) (book : List Page) (order : List Place) (p : ℕ)
    (fault : OrderFault) : Type 0 where
  pub fails : FailsTest spec book order fault
  pub there : place_of order fault ≡ p
  pub first : (other : OrderFault) → place_of order other ≡ p → HasTurnBefore other fault
      → FailsTest spec book order other → ⊥
