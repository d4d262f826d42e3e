-- A search through the pairs of a cut and a state, by what was told: where it is, and what is known
-- there for each object that agrees with the table.
use Rattle.std.specs.Prelude.{◌≡◌, ℕ, ◌⊎◌, List, [], ◌∷◌, length, map, replicate, IsTrue, Some}
use Rattle.book_base.specs.declared.call.Call.{Call}
use Rattle.book_base.specs.declared.call.Place.{Place}
use Rattle.book_base.specs.declared.call.Record.{Record}
use Rattle.book_base.specs.SeqSpec.{SeqSpec}
use Rattle.book_base.specs.Book.{Page, IsValid, IsSmall, IsAnswered, operation_of, record_of}
use Rattle.book_base.specs.Order.{call_at, step_at}
use Rattle.book_base.specs.Next.{next_call, raised, HoldsAnswered, MayComeNext}
use Rattle.book_base.specs.Pruning.{HasOneOpen, ViewsAreWithin, IsDeadEnd}
use Rattle.search_hints.specs.declared.marked_callers.MarkedCallers.{MarkedCallers}
use Rattle.search_hints.specs.Marks.{IsMarked, MarksSuffice}
use Rattle.frontier_check.specs.declared.memo.Memo.{Memo}
use Rattle.frontier_check.specs.Memo.{IsMemo, Remembers}
use Rattle.told_models.specs.declared.table.Transition.{Transition}
use Rattle.told_models.specs.declared.answer.Answer.TheVariants as answers
use Rattle.told_models.specs.Table.{Table, told_step}
use Rattle.told_models.specs.Agreement.{AgreesBy}
use Rattle.told_models.specs.Answers.{IsRightAnswer}
use Rattle.told_models.specs.declared.walk.Frame.{Frame}
use Rattle.told_models.specs.declared.walk.Walk.{Walk}
use Rattle.told_models.specs.declared.walk.Step.{Step}
use Rattle.told_models.specs.declared.walk.Step.TheVariants.{Found, NoneLeft, Asks, GoesOn}

-- A cut and a state are a dead end: for each object that agrees with the table no places continue
-- an order from there.
abbrev pub IsDead : Table → List Page → List ℕ → ℕ → Type 0
IsDead table book cut state = (list_of : ℕ → List ℕ) (spec : SeqSpec) → AgreesBy list_of table spec
    → IsDeadEnd book spec.next cut (list_of state)

-- Callers wait at a cut and a state: the cut lacks an answered call, the next call of each waiting
-- caller may come next, and the waiting callers suffice for each object that agrees with the table.
pub record IsNode (table : Table) (book : List Page) (cut : List ℕ) (state : ℕ)
    (waiting : MarkedCallers) : Type 0 where
  pub unended : HoldsAnswered book cut → ⊥
  pub may : (i : ℕ) → IsMarked waiting i → MayComeNext book cut (next_call cut i)
  pub suffice : (list_of : ℕ → List ℕ) (spec : SeqSpec) → AgreesBy list_of table spec
      → MarksSuffice book spec.next cut (list_of state) waiting

-- A reply is the recorded one of a call, where the call is answered.
abbrev pub IsRecorded : List Page → Call → ℕ → Type 0
IsRecorded book call reply = (r : Record) → record_of book call ≡ Some r → r.reply ≡ reply

-- The call at a place may come next after a cut, and the table tells its step from a state to the
-- next one, with the reply of the place, which is the recorded one where the call is answered.
pub record Enters (table : Table) (book : List Page) (cut : List ℕ) (state : ℕ) (place : Place)
    (next : ℕ) : Type 0 where
  pub may : MayComeNext book cut (call_at place)
  pub recorded : IsRecorded book (call_at place) place.reply
  pub told : told_step table state (step_at book place).0
      ≡ Some (record { next = next; reply = place.reply })

-- Frames of a walk lead from one cut and state to another cut and state, each by the call at its
-- place, whose caller is among those that wait there.
abbrev pub FramesLead : Table → List Page → List ℕ → ℕ → List Frame → List ℕ → ℕ → Type 0
FramesLead table book cut state [] to_cut to_state = (cut ≡ to_cut) × (state ≡ to_state)
FramesLead table book cut state (frame ∷ frames) to_cut to_state = (frame.state ≡ state)
    × IsNode table book cut state frame.waiting × IsMarked frame.waiting frame.place.caller
    × (next : ℕ) × Enters table book cut state frame.place next
    × FramesLead table book (raised cut frame.place.caller) next frames to_cut to_state

-- the places of some frames, in their order
abbrev pub order_of : List Frame → List Place
order_of frames = map (λ frame. frame.place) frames

-- Each pair of a cut and a state that a memo remembers is a dead end.
abbrev pub AllDead : Table → List Page → Memo → Type 0
AllDead table book memo = (cut : List ℕ) (state : ℕ) → Remembers memo cut (state ∷ [])
    → IsDead table book cut state

-- A walk through a valid and small book is sound: its frames lead from the cut without calls and
-- the initial state to its cut and its state, where its callers wait; its memo remembers only dead
-- ends, and is for as many callers as the book has; and it takes the book for one with one open
-- only where the book is one.
pub record IsWalk (table : Table) (book : List Page) (walk : Walk) : Type 0 where
  pub valid : IsValid book
  pub small : IsSmall book
  pub leads : FramesLead table book (replicate (length book) 0) table.init walk.frames.items
      walk.counts.items walk.state
  pub here : IsNode table book walk.counts.items walk.state walk.waiting
  pub dead : AllDead table book walk.memo
  pub memo : IsMemo walk.memo
  pub callers : walk.memo.callers ≡ length book
  pub one_open : IsTrue walk.one_open → HasOneOpen book

-- What one step of a walk comes to is right: an order is legal for each object that agrees with the
-- table, `NoneLeft` comes only where no object that agrees has a legal order, and `Asks` names a
-- step that a judgement may ask for.
abbrev pub IsRightStep : Table → List Page → Step → Type 0
IsRightStep table book (Found order) = IsRightAnswer table book (answers.Legal order)
IsRightStep table book NoneLeft = IsRightAnswer table book answers.Illegal
IsRightStep table book (Asks state op) = IsRightAnswer table book (answers.Ask state op)
IsRightStep table book GoesOn = Unit {0}

-- Call `a` serves for call `b`, which gets this reply: they have one operation, and `a` is answered
-- with this reply, with a view within that of `b` where `b` is answered, or neither is answered.
abbrev pub Serves : List Page → Call → Call → ℕ → Type 0
Serves book a b reply = (operation_of book a ≡ operation_of book b)
    × (((r : Record) × (record_of book a ≡ Some r) × (r.reply ≡ reply)
    × (IsAnswered book b → ViewsAreWithin book a b))
    ⊎ ((IsAnswered book a → ⊥) × (IsAnswered book b → ⊥)))

-- A next call that makes this transition may be spared in a book with one open: it is unanswered
-- and doesn't change the state, or the next call of another waiting caller serves for it.
abbrev pub IsSpared : List Page → Walk → Call → Transition → Type 0
IsSpared book walk call transition =
    ((IsAnswered book call → ⊥) × (transition.next ≡ walk.state))
    ⊎ ((other : ℕ) × (other ≡ call.caller → ⊥) × IsMarked walk.waiting other
    × Serves book (next_call walk.counts.items other) call transition.reply)

-- The next call of a caller needn't be tried, where it makes this transition: its recorded reply is
-- another one, or it may be spared and the book has one open.
abbrev pub IsLeftOut : List Page → Walk → ℕ → Transition → Type 0
IsLeftOut book walk caller transition =
    (IsRecorded book (next_call walk.counts.items caller) transition.reply → ⊥)
    ⊎ (IsTrue walk.one_open
    × IsRecorded book (next_call walk.counts.items caller) transition.reply
    × IsSpared book walk (next_call walk.counts.items caller) transition)
