-- Levels of a stack, and tables of pairs of a level and a cut. A level stands for all lists that
-- end with one item, and names the levels that may lie right below this item. A table is closed
-- where it has the pair of the empty list and the cut of no call, and each call that has to be
-- tried at one of its pairs leads only to its pairs: then the book has no legal order.
use Rattle.std.specs.Prelude.{◌≡◌, ◌≢◌, ℕ, ◌≤◌, ◌⊎◌, IsTrue, List, length, replicate, Option, Some, None, IfSome, slice_get}
use Rattle.book_base.specs.declared.call.Call.{Call}
use Rattle.book_base.specs.declared.call.Record.{Record}
use Rattle.search_hints.specs.declared.marked_callers.MarkedCallers.{MarkedCallers}
use Rattle.book_base.specs.Book.{Page, IsAnswered, operation_of, record_of}
use Rattle.book_base.specs.Next.{next_call, raised, MayComeNext}
use Rattle.book_base.specs.Pruning.{ViewsAreWithin}
use Rattle.search_hints.specs.Marks.{IsMarked, MarksSuffice}
use Rattle.legal_orders.specs.Container.{Effect, Puts, Takes, Neither, Reading}
use Rattle.legal_orders.specs.Calls.{IsNeverTaken, TakesShowing}
use Rattle.list_pruning.specs.declared.top.Top.{Top}
use Rattle.list_pruning.specs.LastFirst.{GivesLastFirst, HasTop}

-- A level: `top` has the last word of the lists for which the level stands, and the flag `kept`,
-- which says that no answered call takes a word of these lists; `parents` has the numbers of the
-- levels that may lie right below it. The bottom is the level of the empty list: it has no last
-- word.
pub record Layer : Type 0 where
  pub top : Top
  pub parents : List ℕ

-- The number `l` of a level is in the list `levels`.
abbrev pub IsOneLevel : List ℕ → ℕ → Type 0
IsOneLevel levels l = (k : ℕ) × (slice_get levels k ≡ Some l)

-- A set of pairs of a level's number and a cut.
abbrev pub Nodes : Type 1
Nodes = ℕ → List ℕ → Type 0

-- The set of the pairs of a level's number and a cut that are in the list `pairs`.
abbrev pub IsAmong : List (ℕ × List ℕ) → Nodes
IsAmong pairs l cut = (k : ℕ) × (slice_get pairs k ≡ Some (l, cut))

-- A take at level `l` leads to the set `nodes` of pairs: where the level has a last word, `nodes`
-- has each of its parents with the cut `after` the take; where the level has no last word, `nodes`
-- has the level itself with this cut.
abbrev pub TakeLeads : Nodes → ℕ → Option ℕ → List ℕ → List ℕ → Type 0
TakeLeads nodes l None parents after = nodes l after
TakeLeads nodes l (Some v) parents after = (p : ℕ) → IsOneLevel parents p → nodes p after

-- A call's effect at level `l` leads to the set `nodes` of pairs, where `after` is the cut after
-- the call: for a put, `nodes` has with this cut some level whose last word is the put's value, and
-- which has `l` as a parent; a take leads as `TakeLeads` says; for an effect that is neither,
-- `nodes` has level `l` itself with this cut.
abbrev pub DeedLeads : List Layer → Nodes → ℕ → Layer → List ℕ → Effect → Type 0
DeedLeads layers nodes l layer after (Puts v) = (m : ℕ) × (above : Layer)
    × (slice_get layers m ≡ Some above)
    × (above.top.last ≡ Some v) × IsOneLevel above.parents l × nodes m after
DeedLeads layers nodes l layer after Takes = TakeLeads nodes l layer.top.last layer.parents after
DeedLeads layers nodes l layer after Neither = nodes l after

-- A call of the book, made at a level and a cut, leads to the set `nodes` of pairs, as `DeedLeads`
-- says of its operation. The cut after the call counts one more call of its caller.
abbrev pub CallLeads : Reading → List Page → List Layer → Nodes → ℕ → Layer → List ℕ → Call → Type 0
CallLeads reading book layers nodes l layer cut call = (op : ℕ) × (operation_of book call ≡ Some op)
    × DeedLeads layers nodes l layer (raised cut call.caller) (reading.deed op)

-- A call is an answered take, and what it shows isn't `last`, the last word of a list: it shows a
-- value that isn't `last`, or it finds nothing though the list has a last word.
abbrev pub ShowsAnother : Reading → List Page → Option ℕ → Call → Type 0
ShowsAnother reading book last call = (shown : Option ℕ) × TakesShowing reading book call shown
    × (shown ≢ last)

-- A call is unanswered and doesn't change a list whose last word is `last`: it is neither put nor
-- take, or it is a take and the list has no last word.
abbrev pub LeavesTop : Reading → List Page → Option ℕ → Call → Type 0
LeavesTop reading book last call = (IsAnswered book call → ⊥)
    × ((op : ℕ) × (operation_of book call ≡ Some op)
    × ((reading.deed op ≡ Neither) ⊎ ((reading.deed op ≡ Takes) × (last ≡ None))))

-- Two answered calls have the same reply, and the view of the first is within that of the second.
abbrev pub AreAnsweredAlike : List Page → Call → Call → Type 0
AreAnsweredAlike book a b = (r s : Record) × (record_of book a ≡ Some r)
    × (record_of book b ≡ Some s)
    × (r.reply ≡ s.reply) × ViewsAreWithin book a b

-- A list has a last word, call `a` is an answered take that shows this word, and call `b` is
-- unanswered.
abbrev pub TakesForOpen : Reading → List Page → Option ℕ → Call → Call → Type 0
TakesForOpen reading book last a b = (v : ℕ) × (last ≡ Some v)
    × TakesShowing reading book a (Some v)
    × (IsAnswered book b → ⊥)

-- Call `a` serves for call `b` at each list whose last word is `last`: the calls are of two callers
-- and have the same operation. Further, both are answered, with the same reply, and the view of `a`
-- is within that of `b`; or `a` is an answered take that shows the last word, and `b` is
-- unanswered; or neither is answered.
pub record ServesAtLevel (reading : Reading) (book : List Page) (last : Option ℕ)
    (a b : Call) : Type 0 where
  pub apart : a.caller ≢ b.caller
  pub same : operation_of book a ≡ operation_of book b
  pub sooner : AreAnsweredAlike book a b ⊎ (TakesForOpen reading book last a b
      ⊎ ((IsAnswered book a → ⊥) × (IsAnswered book b → ⊥)))

-- Some caller's next call after the cut may come next, serves for `call` at the level's last word,
-- and leads from the level to the set `nodes` of pairs.
abbrev pub IsServed : Reading → List Page → List Layer → Nodes → ℕ → Layer → List ℕ → Call → Type 0
IsServed reading book layers nodes l layer cut call = (i : ℕ)
    × MayComeNext book cut (next_call cut i)
    × ServesAtLevel reading book layer.top.last (next_call cut i) call
    × CallLeads reading book layers nodes l layer cut (next_call cut i)

-- A call is followed at a level and a cut: it shows something other than the level's last word, or
-- it is unanswered and doesn't change the list, or it leads to the set `nodes` of pairs, or some
-- next call that serves for it leads to `nodes`.
abbrev pub IsFollowed : Reading → List Page → List Layer → Nodes → ℕ → Layer → List ℕ
    → Call → Type 0
IsFollowed reading book layers nodes l layer cut call =
    ShowsAnother reading book layer.top.last call
    ⊎ (LeavesTop reading book layer.top.last call
    ⊎ (CallLeads reading book layers nodes l layer cut call
    ⊎ IsServed reading book layers nodes l layer cut call))

-- The pair of the level with the number `l` and the cut `cut` is closed: the cut has a count for
-- each caller, the level exists, and there are marks on callers that suffice at this cut and at
-- each list with the level's top, for each object that gives its last value first; and the next
-- call of each marked caller is followed.
pub record IsClosedAt (reading : Reading) (book : List Page) (layers : List Layer) (nodes : Nodes)
    (l : ℕ) (cut : List ℕ) : Type 0 where
  pub wide : length book ≤ length cut
  pub layer : Layer
  pub there : slice_get layers l ≡ Some layer
  pub marks : MarkedCallers
  pub suffice : (next : List ℕ → ℕ → List ℕ × ℕ) (bound : ℕ) (list : List ℕ)
      → GivesLastFirst reading next bound
      → HasTop reading book cut bound layer.top list → MarksSuffice book next cut list marks
  pub followed : (i : ℕ) → IsMarked marks i
      → IsFollowed reading book layers nodes l layer cut (next_call cut i)

-- A level may have the flag `kept`: no answered call takes its last word, if it has one, and each
-- of its parents is a level with this flag.
pub record IsKeptLayer (reading : Reading) (book : List Page) (layers : List Layer)
    (layer : Layer) : Type 0 where
  pub word : IfSome layer.top.last (IsNeverTaken reading book)
  pub below : (p : ℕ) → IsOneLevel layer.parents p
      → (under : Layer) × (slice_get layers p ≡ Some under) × IsTrue under.top.kept

-- The cut that holds no call.
abbrev pub no_calls : List Page → List ℕ
no_calls book = replicate (length book) 0

-- A table of levels and pairs is closed: its first level has no last word, this level with the cut
-- of no call is one of the pairs, `IsKeptLayer` holds of each level with the flag `kept`, and each
-- of the pairs is closed.
pub record IsClosed (reading : Reading) (book : List Page) (layers : List Layer)
    (nodes : Nodes) : Type 0 where
  pub bottom : Layer
  pub first : slice_get layers 0 ≡ Some bottom
  pub empty : bottom.top.last ≡ None
  pub start : nodes 0 (no_calls book)
  pub kept : (l : ℕ) (layer : Layer) → slice_get layers l ≡ Some layer → IsTrue layer.top.kept
      → IsKeptLayer reading book layers layer
  pub closed : (l : ℕ) (cut : List ℕ) → nodes l cut → IsClosedAt reading book layers nodes l cut
