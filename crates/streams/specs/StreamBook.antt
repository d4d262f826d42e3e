-- The books of a stream.
use Rattle.std.specs.Prelude.{◌≡◌, ℕ, ◌<◌, ◌↔◌, List, length, Some, slice_get}
use Rattle.book_base.specs.declared.call.Call.{Call}
use Rattle.book_base.specs.declared.call.Record.{Record}
use Rattle.book_base.specs.Cut.{Holds, IsWithin}
use Rattle.book_base.specs.Book.{Page, IsCall, IsAnswered, operation_of, record_of, announced}
use Rattle.streams.specs.Stream.{StreamEvent, Lost, IsCalledAt, IsStreamCall, Returns, StreamPrecedes}

-- the view holds exactly the calls of a stream that are called before a place
abbrev pub HoldsTheCallsBefore : List StreamEvent → (ℕ → Call) → List ℕ → ℕ → Type 0
HoldsTheCallsBefore stream name view place = (other : ℕ) → IsStreamCall stream other
    → (Holds view (name other) ↔ other < place)

-- A process loses a call between two places of a stream.
abbrev pub LosesBetween : List StreamEvent → ℕ → ℕ → ℕ → Type 0
LosesBetween stream process after before = (k : ℕ) × (after < k) × (k < before)
    × (slice_get stream k ≡ Some (Lost process))

-- A book is the book of a stream, where a call of the stream has a name in the book: the calls of a
-- process are those of one caller, in their order, and after a loss the process continues as a
-- further caller. A view holds what was called before the return. A book may have callers without
-- calls.
pub record IsBookOf (stream : List StreamEvent) (book : List Page)
    (name : ℕ → Call) : Type 0 where
  -- each call of the stream is a call of the book, with its operation word
  pub calls : (call process op : ℕ) → IsCalledAt stream call process op
      → operation_of book (name call) ≡ Some op
  -- each call of the book is a call of the stream
  pub whole : (named : Call) → IsCall book named
      → (call : ℕ) × IsStreamCall stream call × (name call ≡ named)
  -- different calls have different names
  pub apart : (a b : ℕ) → IsStreamCall stream a → IsStreamCall stream b → name a ≡ name b → a ≡ b
  -- of one caller's calls, those with a lesser number return before one with a greater number is
  -- called
  pub turns : (a b : ℕ) → IsStreamCall stream a → IsStreamCall stream b
      → (name a).caller ≡ (name b).caller → (name a).number < (name b).number
      → StreamPrecedes stream a b
  -- the calls of one caller are calls of one process
  pub process : (a b first op second other : ℕ) → IsCalledAt stream a first op
      → IsCalledAt stream b second other → (name a).caller ≡ (name b).caller → first ≡ second
  -- a process continues as the same caller where it loses no call
  pub caller : (a b process op other : ℕ) → a < b → IsCalledAt stream a process op
      → IsCalledAt stream b process other → (LosesBetween stream process a b → ⊥)
      → (name a).caller ≡ (name b).caller
  -- a call that returns is answered with its reply; its view has a count for each caller, counts no
  -- more calls than the book has, and holds exactly the calls that are called before the return
  pub answers : (call end reply : ℕ) → Returns stream call end reply
      → (r : Record) × (record_of book (name call) ≡ Some r) × (r.reply ≡ reply)
      × (length r.view ≡ length book) × IsWithin r.view (announced book)
      × HoldsTheCallsBefore stream name r.view end
  -- only calls that return are answered
  pub returned : (named : Call) → IsAnswered book named
      → (call : ℕ) × (end : ℕ) × (reply : ℕ) × Returns stream call end reply × (name call ≡ named)
