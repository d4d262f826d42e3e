-- Why a list of places is no legal order of a book: the tests that it may fail, and the order in
-- which they are tried.
use Rattle.std.specs.Prelude.{◌≡◌, ◌≢◌, ℕ, ◌+◌, ◌<◌, ◌⊎◌, List, length, take, fold, Some, slice_get}
use Rattle.book_base.specs.declared.call.Call.{Call}
use Rattle.book_base.specs.declared.call.Record.{Record as Answer}
use Rattle.book_base.specs.declared.call.Place.{Place}
use Rattle.book_base.specs.SeqSpec.{SeqSpec}
use Rattle.book_base.specs.Book.{Page, IsCall, IsAnswered, record_of, Precedes}
use Rattle.book_base.specs.Order.{call_at, StandsAt, step_at}
use Rattle.book_base.specs.Next.{list_after}
use Rattle.order_check.specs.declared.fault.OrderFault.{OrderFault}
use Rattle.order_check.specs.declared.fault.OrderFault.TheVariants.{Unknown, Twice, Skipped, Late, Record, Run, Missing}

-- the object's list before a place: after the operations of all earlier places
abbrev pub list_before : SeqSpec → List Page → List Place → ℕ → List ℕ
list_before spec book order p = fold (list_after book spec.next) spec.init (take p order)

-- the reply that the object gives to the operation of a place, after those of the first p places
abbrev pub reply_after_places : SeqSpec → List Page → List Place → ℕ → Place → ℕ
reply_after_places spec book order p place =
    (spec.next (list_before spec book order p) (step_at book place).0).1

-- The list of places fails the test that a fault names, for a sequential object.
abbrev pub FailsTest : SeqSpec → List Page → List Place → OrderFault → Type 0
-- the call at place p isn't in the book
FailsTest spec book order (Unknown p) = (call : Call) × StandsAt order p call
    × (IsCall book call → ⊥)
-- the call at place p stands at an earlier place
FailsTest spec book order (Twice p) = (call : Call) × StandsAt order p call × (j : ℕ) × (j < p)
    × StandsAt order j call
-- the call at place p isn't its caller's first, and its caller's previous call stands at no earlier
-- place
FailsTest spec book order (Skipped p) = (call : Call) × StandsAt order p call × (number : ℕ)
    × (number + 1 ≡ call.number)
    × ((j : ℕ) → j < p → StandsAt order j (record { caller = call.caller; number = number }) → ⊥)
-- the call at place p precedes the call at the earlier place q
FailsTest spec book order (Late q p) = (a : Call) × (b : Call) × StandsAt order p a
    × StandsAt order q b × (q < p) × Precedes book a b
-- the call at place p is answered with the reply `wanted`, and the place has another one, `found`
FailsTest spec book order (Record p wanted found) = (place : Place) × (r : Answer)
    × (slice_get order p ≡ Some place)
    × (record_of book (call_at place) ≡ Some r) × (wanted ≡ r.reply) × (found ≡ place.reply)
    × (wanted ≢ found)
-- the object gives the reply `wanted` at place p, and the place has another one, `found`
FailsTest spec book order (Run p wanted found) = (place : Place)
    × (slice_get order p ≡ Some place)
    × (wanted ≡ reply_after_places spec book order p place) × (found ≡ place.reply)
    × (wanted ≢ found)
-- the call is answered, and stands at no place
FailsTest spec book order (Missing caller number) =
    let call : Call = record { caller = caller; number = number } in
    IsAnswered book call × ((k : ℕ) → StandsAt order k call → ⊥)

-- the place at which a test is tried; missing calls are looked for after all places
abbrev pub place_of : List Place → OrderFault → ℕ
place_of order (Unknown p) = p
place_of order (Twice p) = p
place_of order (Skipped p) = p
place_of order (Late q p) = p
place_of order (Record p wanted found) = p
place_of order (Run p wanted found) = p
place_of order (Missing caller number) = length order

-- the turn of a test at its place; after all places each caller has its turn
abbrev pub turn_of : OrderFault → ℕ
turn_of (Unknown p) = 0
turn_of (Twice p) = 1
turn_of (Skipped p) = 2
turn_of (Late q p) = 3
turn_of (Record p wanted found) = 4
turn_of (Run p wanted found) = 5
turn_of (Missing caller number) = caller

-- the order of the tests of one turn: by the earlier place for a late call, and by the call's
-- number for a missing call
abbrev pub step_of : OrderFault → ℕ
step_of (Late q p) = q
step_of (Missing caller number) = number
step_of fault = 0

-- Of two tests of one place, one is tried before the other: by its turn, and within a turn by its
-- step.
abbrev pub HasTurnBefore : OrderFault → OrderFault → Type 0
HasTurnBefore e f = (turn_of e < turn_of f) ⊎ ((turn_of e ≡ turn_of f) × (step_of e < step_of f))

-- One test is tried before another: at an earlier place, or earlier among the tests of one place.
abbrev pub IsTriedBefore : List Place → OrderFault → OrderFault → Type 0
IsTriedBefore order e f = (place_of order e < place_of order f)
    ⊎ ((place_of order e ≡ place_of order f) × HasTurnBefore e f)

-- The fault names the first test that the list of places fails.
pub record IsFirstFault (spec : SeqSpec) (book : List Page) (order : List Place)
    (fault : OrderFault) : Type 0 where
  pub fails : FailsTest spec book order fault
  pub first : (other : OrderFault) → IsTriedBefore order other fault
      → FailsTest spec book order other → ⊥
