-- Counts of puts and takes by which a container's book has no legal order: what a take shows was
-- put in before, and a take finds nothing only where all that was put in before it is taken.
use Rattle.std.specs.Prelude.{◌≡◌, ℕ, ◌<◌, ◌≤◌, ◌⊎◌, true, List, length, Some, slice_get}
use Rattle.book_base.specs.declared.call.Call.{Call}
use Rattle.book_base.specs.declared.call.Record.{Record}
use Rattle.book_base.specs.Cut.{Holds}
use Rattle.book_base.specs.Book.{Page, IsAnswered, Precedes, record_of}
use Rattle.legal_orders.specs.Container.{Reading}
use Rattle.legal_orders.specs.Deals as deals
use Rattle.legal_orders.specs.Deals.{deal_of}
use Rattle.queue_pairs.specs.Counts.{listed}
use Rattle.queue_pairs.specs.Moments.{moment_of, IsHeldBy}
use Rattle.seq_objects.specs.Replies.{reply_none}

-- ---- counting

-- A list has all calls of a sort, each once.
pub record HasEachOnce (sort : Call → Type 0) (calls : List Call) : Type 0 where
  pub once : (j k : ℕ) (call : Call) → slice_get calls j ≡ Some call
      → slice_get calls k ≡ Some call → j ≡ k
  pub all : (call : Call) → sort call → (k : ℕ) × (slice_get calls k ≡ Some call)
  pub only : (k : ℕ) (call : Call) → slice_get calls k ≡ Some call → sort call

-- More calls are of one sort than of another.
pub record AreMore (one other : Call → Type 0) : Type 0 where
  pub ones : List Call
  pub others : List Call
  pub all_ones : HasEachOnce one ones
  pub all_others : HasEachOnce other others
  pub more : length others < length ones

-- ---- what calls did, and when

-- a call is a put of one of some values
abbrev pub PutsOne : Reading → List Page → List ℕ → Call → Type 0
PutsOne reading book values call = (v : ℕ) × (listed values v ≡ true)
    × (deal_of reading book call ≡ deals.Put v)

-- a call is a take that shows one of some values
abbrev pub ShowsOne : Reading → List Page → List ℕ → Call → Type 0
ShowsOne reading book values call = (v : ℕ) × (listed values v ≡ true)
    × (deal_of reading book call ≡ deals.Took v)

-- a call is a take that shows one of some values, or an unanswered take
abbrev pub MayTakeOne : Reading → List Page → List ℕ → Call → Type 0
MayTakeOne reading book values call =
    ShowsOne reading book values call ⊎ (deal_of reading book call ≡ deals.OpenTake)

-- A call is due up to a moment: its own view counts no more calls than the moment.
abbrev pub IsDueBy : List Page → ℕ → Call → Type 0
IsDueBy book m call = (r : Record) × (record_of book call ≡ Some r) × (moment_of r ≤ m)

-- a call is answered, and precedes another one
abbrev pub IsAnsweredBefore : List Page → Call → Call → Type 0
IsAnsweredBefore book call other = IsAnswered book call × Precedes book call other

-- an answered call's view holds another call
abbrev pub ViewHolds : List Page → Call → Call → Type 0
ViewHolds book call other = (r : Record) × (record_of book call ≡ Some r) × Holds r.view other

-- ---- what counts say

-- More takes that show one of some values are due up to a moment than puts of these values begin up
-- to it, where a call begins at the least moment of a view that holds it.
abbrev pub TakesExceedPuts : Reading → List Page → List ℕ → ℕ → Type 0
TakesExceedPuts reading book values m =
    AreMore (λ call. ShowsOne reading book values call × IsDueBy book m call)
    (λ call. PutsOne reading book values call × IsHeldBy book call m)

-- A take has the reply `none`, and more answered puts of some values precede it than its view holds
-- takes that are unanswered or show one of these values.
pub record FindMissesPuts (reading : Reading) (book : List Page) (values : List ℕ) (find : Call)
    : Type 0 where
  pub r : Record
  pub answered : record_of book find ≡ Some r
  pub none : r.reply ≡ reply_none
  pub takes : deal_of reading book find ≡ deals.FoundNothing
  pub more : AreMore (λ call. PutsOne reading book values call × IsAnsweredBefore book call find)
      (λ call. MayTakeOne reading book values call × ViewHolds book find call)
