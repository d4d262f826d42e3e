-- The search for a legal order: the walk that it keeps, and what is known at a cut and a list.
use Rattle.std.specs.Prelude.{◌≡◌, ℕ, zero, suc, ◌+◌, ◌*◌, ◌-◌, ◌<◌, ◌≤◌, ◌⊎◌, List, [], ◌∷◌, ◌++◌, length, map}
use Rattle.std.specs.List.{AllByRecursion}
use Rattle.book_base.specs.declared.call.Place.{Place}
use Rattle.book_base.specs.declared.TheConstants.{MAX_CALLERS}
use Rattle.book_base.specs.SeqSpec.{SeqSpec}
use Rattle.book_base.specs.Order.{IsLegalOrder}
use Rattle.book_base.specs.Book.{Page}
use Rattle.search_hints.specs.declared.decision.Decision.{Decision}
use Rattle.search_hints.specs.declared.decision.Decision.TheVariants.{Order, NoOrder, Unsaid}
use Rattle.search_hints.specs.declared.marked_callers.MarkedCallers.{MarkedCallers}
use Rattle.book_base.specs.Pruning.{IsDeadEnd}
use Rattle.search_hints.specs.Marks.{IsMarked, MarksSuffice}
use Rattle.book_base.specs.Next.{next_call, raised, list_after, HoldsAnswered, MayComeNext, MayStandNext, Continues}
use Rattle.frontier_check.specs.declared.choice.Choice.{Choice}
use Rattle.frontier_check.specs.declared.prefix.Prefix.{Prefix}
use Rattle.frontier_check.specs.declared.walk.WalkFrame.{WalkFrame}
use Rattle.frontier_check.specs.declared.walk.Walk.{Walk}
use Rattle.frontier_check.specs.declared.walk.StepOutcome.{StepOutcome}
use Rattle.frontier_check.specs.declared.walk.StepOutcome.TheVariants.{Found, NoneLeft, GoesOn}
use Rattle.frontier_check.specs.declared.walk.TheConstants.{MOST_CALLS}
use Rattle.frontier_check.specs.Memo.{IsMemo, Remembers}
use Rattle.frontier_check.specs.Prefix.{IsBookCapacity, IsPrefix}

-- A list and each list that an operation makes of it have no more words than a capacity.
pub record MayGrow (next : List ℕ → ℕ → List ℕ × ℕ) (list : List ℕ) (capacity : ℕ) : Type 0 where
  pub here : length list ≤ capacity
  pub after : (op : ℕ) → length (next list op).0 ≤ capacity

-- a place is among the places of a list
abbrev pub IsAmong : Place → List Place → Type 0
IsAmong place [] = ⊥
IsAmong place (first ∷ places) = (place ≡ first) ⊎ IsAmong place places

-- the places of some choices, in their order
abbrev pub places_of : List Choice → List Place
places_of choices = map (λ choice. choice.place) choices

-- Some places continue an order from a cut and a list, and the first of them is in the list
-- `places`.
abbrev pub GoesOnBy : List Page → (List ℕ → ℕ → List ℕ × ℕ) → List ℕ → List ℕ → List Place → Type 0
GoesOnBy book next cut list places = (place : Place) × (rest : List Place) × IsAmong place places
    × Continues book next cut list (place ∷ rest)

-- At a cut and a list the places `places` are still to be tried: the cut lacks an answered call,
-- each of the places may stand next, and where any places continue an order from the cut and the
-- list, some that begin with one of `places` do.
pub record IsOpen (book : List Page) (next : List ℕ → ℕ → List ℕ × ℕ) (cut list : List ℕ)
    (places : List Place) : Type 0 where
  pub unended : HoldsAnswered book cut → ⊥
  pub sound : AllByRecursion (MayStandNext book next cut list) places
  pub covered : (rest : List Place) → Continues book next cut list rest
      → GoesOnBy book next cut list places

-- From a cut and a list, some places that begin with one of `places` continue an order, or some
-- list of at most `few` places continues one.
abbrev pub IsServed : List Page → (List ℕ → ℕ → List ℕ × ℕ) → List ℕ → List ℕ → List Place
    → ℕ → Type 0
IsServed book next cut list places few =
    GoesOnBy book next cut list places
    ⊎ ((other : List Place) × Continues book next cut list other × (length other ≤ few))

-- Where places that begin with one of the old places continue an order from a cut and a list, some
-- that begin with one of the new places do.
abbrev pub AreServedBy : List Page → (List ℕ → ℕ → List ℕ × ℕ) → List ℕ → List ℕ → List Place
    → List Place → Type 0
AreServedBy book next cut list old new = (place : Place) (rest : List Place) → IsAmong place old
    → Continues book next cut list (place ∷ rest)
    → GoesOnBy book next cut list new

-- The next call of one more caller is considered, and the places to be tried at a cut and a list
-- change from `old` to `new`. Each new place may stand next. Where places that begin with an old
-- place continue an order, some that begin with a new place do. Where places that begin with a call
-- of this caller continue an order, some that begin with a new place do, or a shorter list of
-- places does.
pub record IsOneMore (book : List Page) (next : List ℕ → ℕ → List ℕ × ℕ) (cut list : List ℕ)
    (caller : ℕ) (old new : List Place) : Type 0 where
  pub sound : AllByRecursion (MayStandNext book next cut list) new
  pub served : AreServedBy book next cut list old new
  pub own : (place : Place) (rest : List Place) → place.caller ≡ caller
      → Continues book next cut list (place ∷ rest)
      → IsServed book next cut list new (length rest)

-- The places that are chosen for the marked callers whose numbers are less than `below`: each place
-- may stand next, and where places that begin with a call of one of these callers continue an
-- order, some that begin with a chosen place do, or a shorter list of places does.
pub record AreChosen (book : List Page) (next : List ℕ → ℕ → List ℕ × ℕ) (cut list : List ℕ)
    (marks : MarkedCallers) (below : ℕ) (places : List Place) : Type 0 where
  pub sound : AllByRecursion (MayStandNext book next cut list) places
  pub covered : (place : Place) (rest : List Place) → place.caller < below
      → IsMarked marks place.caller → Continues book next cut list (place ∷ rest)
      → IsServed book next cut list places (length rest)

-- The marked callers are the ones to try at a cut and a list: the next call of each may come next,
-- and the marks suffice.
pub record AreToTry (book : List Page) (next : List ℕ → ℕ → List ℕ × ℕ) (cut list : List ℕ)
    (marks : MarkedCallers) : Type 0 where
  pub may : (i : ℕ) → IsMarked marks i → MayComeNext book cut (next_call cut i)
  pub suffice : MarksSuffice book next cut list marks

-- Frames of a walk lead from one cut and list to another cut and list, each by the call at its
-- place. The words of a frame are the list before this call. The places still to be tried at the
-- cut and the list before this call are the frame's own place and those of its choices.
abbrev pub FramesLead : List Page → (List ℕ → ℕ → List ℕ × ℕ) → List ℕ → List ℕ → List WalkFrame
    → List ℕ
    → List ℕ → Type 0
FramesLead book next cut list [] to_cut to_list = (cut ≡ to_cut) × (list ≡ to_list)
FramesLead book next cut list (frame ∷ frames) to_cut to_list =
    (frame.words.items ≡ list)
    × IsOpen book next cut list (frame.place ∷ places_of frame.choices.items)
    × FramesLead book next (raised cut frame.place.caller)
    (list_after book next list frame.place) frames to_cut to_list

-- Each pair of a cut and a list that the memo of a walk remembers is a dead end.
abbrev pub AllDead : List Page → (List ℕ → ℕ → List ℕ × ℕ) → Walk → Type 0
AllDead book next walk = (cut list : List ℕ) → Remembers walk.memo cut list
    → IsDeadEnd book next cut list

-- A walk of a search that begins after a prefix is sound: `IsPrefix` holds of the prefix; the
-- walk's frames lead from the prefix's cut and list to the walk's; the places `places` are still to
-- be tried at the walk's cut and list; its memo is sound as `IsMemo` says, remembers only dead
-- ends, and is for as many callers as the book has; and the capacity of its state suffices in each
-- book.
pub record IsWalk (book : List Page) (prefix : Prefix) (spec : SeqSpec) (walk : Walk)
    (places : List Place) : Type 0 where
  pub begins : IsPrefix spec book prefix
  pub leads : FramesLead book spec.next prefix.cut prefix.here.words walk.frames.items
      walk.counts.items
      walk.here.words
  pub here : IsOpen book spec.next walk.counts.items walk.here.words places
  pub dead : AllDead book spec.next walk
  pub memo : IsMemo walk.memo
  pub callers : walk.memo.callers ≡ length book
  pub room : IsBookCapacity spec walk.here.room

-- the places of some frames, in their order
abbrev pub order_of : List WalkFrame → List Place
order_of frames = map (λ frame. frame.place) frames

-- A bound on the number of ways to put `depth` places one after another, where at each place no
-- more choices are tried than a book may have callers: the greatest number of callers plus 2, to
-- the power of `depth`.
unfoldable pub ways : ℕ → ℕ
ways zero = 1
ways (suc depth) = (MAX_CALLERS + 2) * ways depth

-- A number for how much is left to try, where at most `depth` places follow the first cut. Each
-- frame adds one more than the number of its choices, and the end adds `choices` and one more, each
-- times the bound `ways` for the places that may still follow there. One choice of a frame weighs
-- more than all frames after it, where each of these has no more choices than a book may have
-- callers.
unfoldable pub weigh : ℕ → List WalkFrame → ℕ → ℕ
weigh depth [] choices = (choices + 1) * ways depth
weigh depth (frame ∷ frames) choices =
    (length frame.choices.items + 1) * ways depth + weigh (depth - 1) frames choices

-- the number for how much is left to try in a walk
abbrev pub weight : Walk → ℕ
weight walk = weigh MOST_CALLS walk.frames.items (length walk.choices.items)

-- The outcome of a step of the search is right: with `Found` the places of the prefix and then of
-- the frames are a legal order; with `NoneLeft` the cut and the list of the prefix are a dead end;
-- and with `GoesOn` the walk is sound as `IsWalk` says, with the places of its choices still to be
-- tried, and weighs less than `before`.
abbrev pub IsRightOutcome : List Page → Prefix → SeqSpec → ℕ → Walk → StepOutcome → Type 0
IsRightOutcome book prefix spec before walk Found =
    IsLegalOrder spec book (prefix.places.items ++ order_of walk.frames.items)
IsRightOutcome book prefix spec before walk NoneLeft =
    IsDeadEnd book spec.next prefix.cut prefix.here.words
IsRightOutcome book prefix spec before walk GoesOn =
    IsWalk book prefix spec walk (places_of walk.choices.items) × (weight walk < before)

-- What a search says of the places after those of a prefix is right: they make a legal order, or the
-- cut and the list of the prefix are a dead end, or it says nothing.
abbrev pub IsRightAfter : SeqSpec → List Page → Prefix → Decision → Type 0
IsRightAfter spec book prefix (Order rest) =
    IsLegalOrder spec book (prefix.places.items ++ rest.items)
IsRightAfter spec book prefix NoOrder = IsDeadEnd book spec.next prefix.cut prefix.here.words
IsRightAfter spec book prefix Unsaid = Unit {0}
