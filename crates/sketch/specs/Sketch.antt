-- The sketch of a book: the history of invocations and returns that its views determine (Castañeda
-- and Rodríguez 2023).
use Rattle.std.specs.Prelude.{◌≡◌, ℕ, ◌<◌, ◌≤◌, ◌⊎◌, ◌↔◌, List, Some, slice_get, slice_index}
use Rattle.book_base.specs.declared.call.Call.{Call}
use Rattle.book_base.specs.declared.call.Record.{Record}
use Rattle.book_base.specs.Cut.{Holds, IsWithin}
use Rattle.book_base.specs.Book.{Page, IsCall, IsAnswered, record_of}
use Rattle.sketch.specs.declared.event.Event.{Event}
use Rattle.sketch.specs.declared.event.Event.TheVariants.{Invoke, Return}

-- The events of a book: each call is invoked, and each answered call returns.
abbrev pub IsEventOf : List Page → Event → Type 0
IsEventOf book (Invoke call) = IsCall book call
IsEventOf book (Return call) = IsAnswered book call

-- Each view of the book that holds call b holds call a.
abbrev pub IsSeenWith : List Page → Call → Call → Type 0
IsSeenWith book a b = (answered : Call) (r : Record) → record_of book answered ≡ Some r
    → Holds r.view b → Holds r.view a

-- Call a stands before call b, by caller and then by number.
abbrev pub IsListedBefore : Call → Call → Type 0
IsListedBefore a b = (a.caller < b.caller) ⊎ ((a.caller ≡ b.caller) × (a.number < b.number))

-- Whether one event of a book comes before another in the sketch, as the views determine it.
abbrev pub ComesBefore : List Page → Event → Event → Type 0
-- Call a is invoked before call b where each view that holds b holds a; calls that the same views
-- hold are invoked by caller and then by number.
ComesBefore book (Invoke a) (Invoke b) = IsSeenWith book a b
    × (IsSeenWith book b a → IsListedBefore a b)
-- An invocation comes before a return where the view of the returning call holds the invoked one.
ComesBefore book (Invoke a) (Return b) = (r : Record) → record_of book b ≡ Some r → Holds r.view a
-- A return comes before an invocation where the view of the returning call doesn't hold the invoked
-- one.
ComesBefore book (Return a) (Invoke b) = (r : Record) → record_of book a ≡ Some r
    → slice_index r.view b.caller ≤ b.number
-- A return comes before another where its call's view is within the other call's view; calls with
-- equal views return by caller.
ComesBefore book (Return a) (Return b) = (r s : Record) → record_of book a ≡ Some r
    → record_of book b ≡ Some s
    → IsWithin r.view s.view × (IsWithin s.view r.view → a.caller < b.caller)

-- an event stands in a list
abbrev pub StandsIn : List Event → Event → Type 0
StandsIn events event = (k : ℕ) × (slice_get events k ≡ Some event)

-- A list of events is the sketch of a book: it has exactly the book's events, and each comes before
-- all that stand after it.
pub record IsSketch (book : List Page) (events : List Event) : Type 0 where
  -- the list has the events of the book, and no others
  pub whole : (event : Event) → StandsIn events event ↔ IsEventOf book event
  -- each event of the list comes before all that stand after it
  pub ordered : (j k : ℕ) (e f : Event) → slice_get events j ≡ Some e → slice_get events k ≡ Some f
      → j < k → ComesBefore book e f
