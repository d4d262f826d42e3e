-- Laws of sketches.
use Rattle.std.specs.Prelude.{◌≡◌, ℕ, ◌<◌, ◌≤◌, ◌↔◌, List, Some, IsSomeAnd, slice_get, slice_index}
use Rattle.book_base.specs.declared.call.Call.{Call}
use Rattle.book_base.specs.declared.call.Record.{Record}
use Rattle.book_base.specs.Cut.{Holds}
use Rattle.book_base.specs.Book.{Page, IsCall, IsAnswered, IsValid, record_of}
use Rattle.sketch.specs.declared.event.Event.{Event}
use Rattle.sketch.specs.declared.event.Event.TheVariants.{Invoke, Return}
use Rattle.sketch.specs.Sketch.{IsSketch, StandsIn}

-- A book has at most one sketch.
abbrev pub BooksHaveOneSketch : Type 0
BooksHaveOneSketch = (book : List Page) (events others : List Event) → IsSketch book events
    → IsSketch book others → events ≡ others

-- A valid book has a sketch.
abbrev pub ValidBooksHaveASketch : Type 0
ValidBooksHaveASketch = (book : List Page) → IsValid book → (events : List Event)
    × IsSketch book events

-- An event stands in a sketch at most once.
abbrev pub EventsStandOnce : Type 0
EventsStandOnce = (book : List Page) (events : List Event) → IsSketch book events
    → (j k : ℕ) (event : Event)
    → slice_get events j ≡ Some event → slice_get events k ≡ Some event → j ≡ k

-- In the sketch of a valid book each call of the book is invoked, and each answered call returns
-- after its invocation.
abbrev pub CallsReturnAfterTheyAreInvoked : Type 0
CallsReturnAfterTheyAreInvoked = (book : List Page) (events : List Event) → IsValid book
    → IsSketch book events → (call : Call)
    → (IsCall book call → StandsIn events (Invoke call))
    × (IsAnswered book call → (j : ℕ) × (k : ℕ) × (slice_get events j ≡ Some (Invoke call))
    × (slice_get events k ≡ Some (Return call)) × (j < k))

-- The calls that are invoked before the return of a call are exactly those that its view holds.
abbrev pub ViewsHoldWhatWasInvoked : Type 0
ViewsHoldWhatWasInvoked = (book : List Page) (events : List Event) → IsSketch book events
    → (j k : ℕ) (a b : Call) (r : Record)
    → slice_get events j ≡ Some (Invoke b) → slice_get events k ≡ Some (Return a)
    → record_of book a ≡ Some r → (j < k) ↔ Holds r.view b

-- The return of a call stands before the invocation of another exactly where the call is answered
-- and its view doesn't hold the other.
abbrev pub ReturnsComeBeforeUnseenCalls : Type 0
ReturnsComeBeforeUnseenCalls = (book : List Page) (events : List Event) → IsSketch book events
    → (a b : Call) → IsCall book b
    → ((j : ℕ) × (k : ℕ) × (slice_get events j ≡ Some (Return a))
    × (slice_get events k ≡ Some (Invoke b)) × (j < k))
    ↔ IsSomeAnd (record_of book a) (λ r. slice_index r.view b.caller ≤ b.number)
