-- Legal orders of a stream.
use Rattle.std.specs.Prelude.{◌≡◌, ℕ, ◌<◌, List, map, Option, Some, None, slice_get}
use Rattle.book_base.specs.SeqSpec.{SeqSpec}
use Rattle.book_base.specs.Sequential.{IsLegalRun}
use Rattle.streams.specs.Stream.{StreamEvent, Called, Returned, Lost, IsStreamCall, Returns, StreamPrecedes}

-- a place of a stream's order: a call, and the reply that it gets there
pub record StreamPlace : Type 0 where
  pub call : ℕ
  pub reply : ℕ

-- the operation word of an event, 0 where it is no call
abbrev pub word_of_event : Option StreamEvent → ℕ
word_of_event None = 0
word_of_event (Some (Called process op)) = op
word_of_event (Some (Returned process reply)) = 0
word_of_event (Some (Lost process)) = 0

-- the operation word of a place's call, 0 where the stream lacks the call, and the place's reply
abbrev pub stream_step : List StreamEvent → StreamPlace → ℕ × ℕ
stream_step stream place = (word_of_event (slice_get stream place.call), place.reply)

-- a place is among some places
abbrev pub IsAmong : List StreamPlace → StreamPlace → Type 0
IsAmong places place = (k : ℕ) × (slice_get places k ≡ Some place)

-- A legal order of a stream, for a sequential object (Herlihy and Wing 1990). A call that doesn't
-- return, be it lost or not, may be in it with the reply that the object gives, or be left out.
pub record IsLegalStreamOrder (spec : SeqSpec) (stream : List StreamEvent)
    (order : List StreamPlace) : Type 0 where
  -- each call of the order is a call of the stream
  pub calls : (place : StreamPlace) → IsAmong order place → IsStreamCall stream place.call
  -- no call is in the order twice
  pub once : (j k : ℕ) (a b : StreamPlace) → slice_get order j ≡ Some a
      → slice_get order k ≡ Some b → a.call ≡ b.call → j ≡ k
  -- each call that returns is in the order with its reply
  pub returned : (call end reply : ℕ) → Returns stream call end reply
      → IsAmong order (record { call = call; reply = reply })
  -- the replies are those that the object gives when the operations are applied in this order
  pub run : IsLegalRun spec (map (stream_step stream) order)
  -- of two calls of the order, one that precedes the other is before it
  pub precedence : (j k : ℕ) (a b : StreamPlace) → slice_get order j ≡ Some a
      → slice_get order k ≡ Some b → StreamPrecedes stream a.call b.call → j < k

-- the stream has a legal order
abbrev pub HasLegalStreamOrder : SeqSpec → List StreamEvent → Type 0
HasLegalStreamOrder spec stream = (order : List StreamPlace) × IsLegalStreamOrder spec stream order
