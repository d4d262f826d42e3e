-- Legal orders of a book.
use Rattle.std.specs.Prelude.{◌≡◌, ℕ, ◌<◌, List, map, Some, unwrap_or, slice_get}
use Rattle.book_base.specs.declared.call.Call.{Call}
use Rattle.book_base.specs.declared.call.Record.{Record}
use Rattle.book_base.specs.declared.call.Place.{Place}
use Rattle.book_base.specs.SeqSpec.{SeqSpec}
use Rattle.book_base.specs.Book.{Page, IsCall, operation_of, record_of, Precedes}
use Rattle.book_base.specs.Sequential.{IsLegalRun}

-- the call of a place in an order
abbrev pub call_at : Place → Call
call_at place = record { caller = place.caller; number = place.number }

-- the order has the call at this index
abbrev pub StandsAt : List Place → ℕ → Call → Type 0
StandsAt order k call = (place : Place) × (slice_get order k ≡ Some place) × (call_at place ≡ call)

-- the operation word of a place's call in a book, 0 where the book lacks the call, and the place's
-- reply
abbrev pub step_at : List Page → Place → ℕ × ℕ
step_at book place = (unwrap_or (operation_of book (call_at place)) 0, place.reply)

-- A legal order of a book, for a sequential object (Herlihy and Wing 1990, on views). An unanswered
-- call may stand in it with the reply that the object gives, or be left out.
pub record IsLegalOrder (spec : SeqSpec) (book : List Page) (order : List Place) : Type 0 where
  -- each call in the order is a call of the book
  pub calls : (k : ℕ) (call : Call) → StandsAt order k call → IsCall book call
  -- no call stands in the order twice
  pub once : (j k : ℕ) (call : Call) → StandsAt order j call → StandsAt order k call → j ≡ k
  -- before each call in the order stand all earlier calls of its caller
  pub earlier : (k : ℕ) (call : Call) → StandsAt order k call → (number : ℕ) → number < call.number
      → (j : ℕ) × (j < k) × StandsAt order j (record { caller = call.caller; number = number })
  -- each answered call stands in the order with its recorded reply
  pub answered : (call : Call) (r : Record) → record_of book call ≡ Some r
      → (k : ℕ) × (slice_get order k
      ≡ Some (record { caller = call.caller; number = call.number; reply = r.reply }))
  -- the replies are those that the object gives when the operations are applied in this order
  pub run : IsLegalRun spec (map (step_at book) order)
  -- of two calls in the order, one that precedes the other stands before it
  pub precedence : (j k : ℕ) (a b : Call) → StandsAt order j a → StandsAt order k b
      → Precedes book a b → j < k

-- the book has a legal order
abbrev pub HasLegalOrder : SeqSpec → List Page → Type 0
HasLegalOrder spec book = (order : List Place) × IsLegalOrder spec book order
