-- How a sketch is drawn, one event after another.
use Rattle.std.specs.Prelude.{◌≡◌, ◌≤◌, ◌⊎◌, ℕ, List, length, Some, slice_index}
use Rattle.book_base.specs.declared.call.Call.{Call}
use Rattle.book_base.specs.declared.call.Record.{Record}
use Rattle.book_base.specs.Cut.{Holds, IsWithin}
use Rattle.book_base.specs.Book.{Page, calls_of, answers_of, record_of}
use Rattle.book_base.specs.Next.{raised}
use Rattle.sketch.specs.declared.event.Event.{Event}
use Rattle.sketch.specs.declared.event.Event.TheVariants.{Invoke, Return}
use Rattle.sketch.specs.declared.drawn.Drawn.{Drawn}
use Rattle.sketch.specs.Sketch.{IsEventOf, ComesBefore}

-- An event is drawn: its call is among those invoked so far, where it is an invocation, or among
-- those returned so far, where it is a return.
abbrev pub IsDrawn : Drawn → Event → Type 0
IsDrawn drawn (Invoke call) = Holds drawn.invoked call
IsDrawn drawn (Return call) = Holds drawn.returned call

-- The events drawn so far fit a book: the calls that are invoked are its calls, those that have
-- returned are answered, and all calls that the view of a returned call holds are invoked.
pub record IsPartOf (book : List Page) (drawn : Drawn) : Type 0 where
  -- both cuts have a count for each caller of the book
  pub wide_invoked : length drawn.invoked ≡ length book
  pub wide_returned : length drawn.returned ≡ length book
  -- no more calls are invoked than were made, and no more have returned than are answered
  pub made : (i : ℕ) → slice_index drawn.invoked i ≤ calls_of book i
  pub answered : (i : ℕ) → slice_index drawn.returned i ≤ answers_of book i
  -- the calls that the view of a returned call holds are invoked
  pub seen : (call : Call) (r : Record) → record_of book call ≡ Some r → Holds drawn.returned call
      → IsWithin r.view drawn.invoked

-- a call is the next one of its caller after the calls of a cut
abbrev pub IsNextOf : List ℕ → Call → Type 0
IsNextOf cut call = call.number ≡ slice_index cut call.caller

-- an event's call is the next one of its caller to be invoked, or to return
abbrev pub FollowsOn : Drawn → Event → Type 0
FollowsOn drawn (Invoke call) = IsNextOf drawn.invoked call
FollowsOn drawn (Return call) = IsNextOf drawn.returned call

-- An event comes next: it is an event of the book, its call is the next one of its caller to be
-- invoked or to return, and it comes before each other event of the book that isn't drawn.
pub record IsNext (book : List Page) (drawn : Drawn) (event : Event) : Type 0 where
  pub is_event : IsEventOf book event
  pub follows : FollowsOn drawn event
  pub first : (other : Event) → IsEventOf book other → (IsDrawn drawn other → ⊥) → (other ≡ event)
      ⊎ ComesBefore book event other

-- the calls that are invoked and that have returned after one more event is drawn
abbrev pub with_event : Drawn → Event → Drawn
with_event drawn (Invoke call) = record drawn { invoked = raised drawn.invoked call.caller }
with_event drawn (Return call) = record drawn { returned = raised drawn.returned call.caller }
