-- The search for a legal set order: the pairs of a cut and a list that it reaches, and what it
-- knows at each of them.
use Rattle.std.specs.Prelude.{◌≡◌, ◌≢◌, ℕ, zero, suc, ◌+◌, ◌*◌, ◌-◌, ◌/◌, ◌%◌, ◌^◌, ◌<◌, ◌≤◌, ◌==◌, ◌⊎◌, List, [], ◌∷◌, length, map, replicate, Option, Some, unwrap_or, slice_index, slice_set, if◌then◌else◌}
use Rattle.std.specs.List.{AllByRecursion}
use Rattle.book_base.specs.declared.call.Record.{Record}
use Rattle.book_base.specs.declared.call.Place.{Place}
use Rattle.book_base.specs.declared.TheConstants.{MAX_CALLERS}
use Rattle.book_base.specs.Book.{Page, operation_of, record_of}
use Rattle.book_base.specs.Order.{call_at}
use Rattle.book_base.specs.Next.{next_call, HoldsAnswered, MayComeNext}
use Rattle.frontier_check.specs.Memo.{IsMemo, Remembers}
use Rattle.set_order.specs.declared.walk.SetFrame.{SetFrame}
use Rattle.set_order.specs.declared.walk.SetWalk.{SetWalk}
use Rattle.set_order.specs.declared.walk.StepOutcome.{StepOutcome}
use Rattle.set_order.specs.declared.walk.StepOutcome.TheVariants.{Found, NoneLeft, GoesOn}
use Rattle.set_order.specs.declared.walk.TheConstants.{MOST_CALLS, DEPTH}
use Rattle.set_order.specs.Serving.{SufficesAfter}
use Rattle.set_order.specs.SetOrder.{callers_of, operations_of, replies_of, RiseFrom, IsLegalSetOrder, HasLegalSetOrder}

-- A capacity suffices in each book: for as many operations of the object as a book may have calls.
abbrev pub IsBookCapacity : List ℕ → (List ℕ → List ℕ → Option (List ℕ × List ℕ)) → ℕ → Type 0
IsBookCapacity init served capacity = SufficesAfter served init MOST_CALLS capacity

-- the cut that holds no call of a book
abbrev pub no_calls : List Page → List ℕ
no_calls book = replicate (length book) 0

-- the cut that holds the calls of `cut` and those of a set
abbrev pub raised_by : List ℕ → List Place → List ℕ
raised_by cut [] = cut
raised_by cut (place ∷ set) = raised_by (slice_set cut place.caller (place.number + 1)) set

-- A place may stand in the next set after the calls of a cut: its call may come next, and has the
-- place's reply as its recorded reply where it is answered.
pub record MayStandIn (book : List Page) (cut : List ℕ) (place : Place) : Type 0 where
  pub may_come : MayComeNext book cut (call_at place)
  pub recorded : (r : Record) → record_of book (call_at place) ≡ Some r → r.reply ≡ place.reply

-- A set may come next after the calls of a cut and at a list of the object: it has a call, its
-- calls are in the order of their callers, each of them may stand in the next set, and the object
-- serves them at once with the replies of their places, which leads to the list `after`.
pub record MayStandTogether (served : List ℕ → List ℕ → Option (List ℕ × List ℕ)) (book : List Page)
    (cut list : List ℕ) (set : List Place) (after : List ℕ) : Type 0 where
  pub some : 1 ≤ length set
  pub by_caller : RiseFrom 0 (callers_of set)
  pub each : AllByRecursion (MayStandIn book cut) set
  pub served_so : served list (operations_of book set) ≡ Some (after, replies_of set)

-- Sets continue an order from a cut and a list of the object: each may come next after those before
-- it, and in the end the cut holds all answered calls.
abbrev pub SetsContinue : (List ℕ → List ℕ → Option (List ℕ × List ℕ)) → List Page → List ℕ → List ℕ
    → List (List Place) → Type 0
SetsContinue served book cut list [] = HoldsAnswered book cut
SetsContinue served book cut list (set ∷ sets) =
    (after : List ℕ) × MayStandTogether served book cut list set after
    × SetsContinue served book (raised_by cut set) after sets

-- A cut and a list are a dead end: no sets continue an order from them.
abbrev pub IsDeadEnd : (List ℕ → List ℕ → Option (List ℕ × List ℕ)) → List Page → List ℕ
    → List ℕ → Type 0
IsDeadEnd served book cut list = (sets : List (List Place))
    → SetsContinue served book cut list sets → ⊥

-- the callers of a list that `number` picks by its binary digits: the first caller where the lowest
-- digit is 1, the second one by the next digit, and so on
abbrev pub picked : ℕ → List ℕ → List ℕ
picked number [] = []
picked number (i ∷ callers) =
    if number % 2 == 1 then i ∷ picked (number / 2) callers else picked (number / 2) callers

-- the caller `i` is in a list of callers
abbrev pub IsOneCaller : List ℕ → ℕ → Type 0
IsOneCaller [] i = ⊥
IsOneCaller (j ∷ callers) i = (i ≡ j) ⊎ IsOneCaller callers i

-- The list `callers` has, in order, exactly the callers whose next calls after a cut may come next.
pub record AreCandidates (book : List Page) (cut callers : List ℕ) : Type 0 where
  pub rise : RiseFrom 0 callers
  pub may_come : AllByRecursion (λ i. MayComeNext book cut (next_call cut i)) callers
  pub all : (i : ℕ) → MayComeNext book cut (next_call cut i) → IsOneCaller callers i

-- At a cut and a list, no set of the next calls of exactly the callers `callers` may come next.
abbrev pub CannotStand : (List ℕ → List ℕ → Option (List ℕ × List ℕ)) → List Page → List ℕ → List ℕ
    → List ℕ → Type 0
CannotStand served book cut list callers = (set : List Place) (after : List ℕ)
    → callers_of set ≡ callers → MayStandTogether served book cut list set after → ⊥

-- At a cut and a list, each set of the next calls of exactly the callers `callers` that may come
-- next leads to a dead end.
abbrev pub LeadsNowhere : (List ℕ → List ℕ → Option (List ℕ × List ℕ)) → List Page → List ℕ → List ℕ
    → List ℕ → Type 0
LeadsNowhere served book cut list callers = (set : List Place) (after : List ℕ)
    → callers_of set ≡ callers → MayStandTogether served book cut list set after
    → IsDeadEnd served book (raised_by cut set) after

-- What is known at a cut and a list where sets are still to be tried: the cut lacks an answered
-- call, the callers `callers` are exactly those whose next calls may come next, `left` is a number
-- that picks a part of them, and each part of them that a greater number picks leads nowhere.
pub record IsOpen (served : List ℕ → List ℕ → Option (List ℕ × List ℕ)) (book : List Page)
    (cut list callers : List ℕ) (left : ℕ) : Type 0 where
  pub unended : HoldsAnswered book cut → ⊥
  pub candidates : AreCandidates book cut callers
  pub below : left < 2 ^ length callers
  pub tried : (number : ℕ) → left < number → number < 2 ^ length callers
      → LeadsNowhere served book cut list (picked number callers)

-- A frame is one of a cut and a list: it keeps their counts and words; its set may come next at
-- them, and leads to the list `after`; the number `left + 1` of the frame picks the callers of this
-- set; and with this number and the frame's callers, `IsOpen` holds at the cut and the list.
pub record IsFrame (served : List ℕ → List ℕ → Option (List ℕ × List ℕ)) (book : List Page)
    (cut list : List ℕ) (frame : SetFrame) (after : List ℕ) : Type 0 where
  pub counts : frame.counts.items ≡ cut
  pub words : frame.words.items ≡ list
  pub open_here : IsOpen served book cut list frame.callers.items (frame.left + 1)
  pub chosen : callers_of frame.set ≡ picked (frame.left + 1) frame.callers.items
  pub stands : MayStandTogether served book cut list frame.set after

-- The frames of a walk lead from one cut and list to another cut and list, each by its set.
abbrev pub FramesLead : (List ℕ → List ℕ → Option (List ℕ × List ℕ)) → List Page → List ℕ → List ℕ
    → List SetFrame → List ℕ → List ℕ → Type 0
FramesLead served book cut list [] to_cut to_list = (cut ≡ to_cut) × (list ≡ to_list)
FramesLead served book cut list (frame ∷ frames) to_cut to_list =
    (after : List ℕ) × IsFrame served book cut list frame after
    × FramesLead served book (raised_by cut frame.set) after frames to_cut to_list

-- each pair of a cut and a list that the memo of a walk remembers is a dead end
abbrev pub AllDead : (List ℕ → List ℕ → Option (List ℕ × List ℕ)) → List Page → SetWalk → Type 0
AllDead served book walk = (cut list : List ℕ) → Remembers walk.memo cut list
    → IsDeadEnd served book cut list

-- A walk is sound: its frames lead from the cut without calls and the object's first list to the
-- walk's cut and list; at these, `IsOpen` holds with the walk's callers and its number `left`; its
-- memo is sound as `IsMemo` says, remembers only dead ends, and is for as many callers as the book
-- has; and the capacity of its state suffices in each book.
pub record IsWalk (init : List ℕ) (served : List ℕ → List ℕ → Option (List ℕ × List ℕ))
    (book : List Page) (walk : SetWalk) : Type 0 where
  pub leads : FramesLead served book
      (no_calls book) init walk.frames.items walk.counts.items walk.here.words
  pub here : IsOpen served book walk.counts.items walk.here.words walk.callers.items walk.left
  pub dead : AllDead served book walk
  pub memo : IsMemo walk.memo
  pub callers : walk.memo.callers ≡ length book
  pub room : IsBookCapacity init served walk.here.room

-- the sets of some frames, in order
abbrev pub order_of : List SetFrame → List (List Place)
order_of frames = map (λ frame. frame.set) frames

-- a bound on how many sequences of at most `depth` sets there are
unfoldable pub ways : ℕ → ℕ
ways zero = 1
ways (suc depth) = (2 ^ MAX_CALLERS + 2) * ways depth

-- a number for how much may be left to try, where at most `depth` sets follow the first cut: each
-- number that a frame has still to try weighs more than all that may be tried after it
unfoldable pub weigh : ℕ → List SetFrame → ℕ → ℕ
weigh depth [] left = (left + 1) * ways depth
weigh depth (frame ∷ frames) left = (frame.left + 1) * ways depth + weigh (depth - 1) frames left

-- the number for how much may be left to try in a walk
abbrev pub weight : SetWalk → ℕ
weight walk = weigh DEPTH walk.frames.items walk.left

-- The outcome of a step of the search is right: with `Found` the sets of the frames are a legal set
-- order; with `NoneLeft` the book has none; and with `GoesOn` the walk is sound and weighs less
-- than `before`.
abbrev pub IsRightOutcome : List ℕ → (List ℕ → List ℕ → Option (List ℕ × List ℕ)) → List Page → ℕ
    → SetWalk → StepOutcome → Type 0
IsRightOutcome init served book before walk Found =
    IsLegalSetOrder init served book (order_of walk.frames.items)
IsRightOutcome init served book before walk NoneLeft = HasLegalSetOrder init served book → ⊥
IsRightOutcome init served book before walk GoesOn = IsWalk init served book walk
    × (weight walk < before)

-- the operation words of some callers' next calls after the calls of a cut, with 0 for a call that
-- the book lacks
abbrev pub next_operations : List Page → List ℕ → List ℕ → List ℕ
next_operations book cut callers =
    map (λ i. unwrap_or (operation_of book (next_call cut i)) 0) callers

-- The places of a set are those of the next calls of `callers` after a cut, with the replies
-- `replies`, which are the recorded ones where the calls are answered.
pub record ArePlaced (book : List Page) (cut callers replies : List ℕ)
    (set : List Place) : Type 0 where
  pub callers_are : callers_of set ≡ callers
  pub replies_are : replies_of set ≡ replies
  pub numbers : AllByRecursion (λ place. place.number ≡ slice_index cut place.caller) set
  pub recorded : AllByRecursion
      (λ place. (r : Record) → record_of book (call_at place) ≡ Some r → r.reply ≡ place.reply) set

-- The next call of one of `callers` after a cut is answered, and its recorded reply isn't the one
-- that `replies` has at the index of this caller in `callers`.
pub record HasWrongReply (book : List Page) (cut callers replies : List ℕ) : Type 0 where
  pub at : ℕ
  pub inside : at < length callers
  pub answer : Record
  pub known : record_of book (next_call cut (slice_index callers at)) ≡ Some answer
  pub other : answer.reply ≢ slice_index replies at
