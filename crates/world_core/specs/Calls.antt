-- The calls that locals record: how far each has come, the book of all of them, and what one caller
-- has peeked of a book.
use Rattle.std.specs.Prelude.{◌≡◌, ℕ, ◌+◌, ◌<◌, ◌≤◌, ◌↔◌, nat_lt, if◌then◌else◌, List, [], ◌∷◌, length, map, Some, Contains, slice_index, slice_index_or}
use Rattle.std.specs.List.{range_with_len, flat_map}
use Rattle.book_base.specs.declared.call.Call.{Call}
use Rattle.book_base.specs.declared.call.Record.{Record}
use Rattle.book_base.specs.OperationWord.{low_of, high_of}
use Rattle.book_base.specs.Book.{Page, IsCall, operation_of, record_of, answers_of}
use Rattle.book_base.specs.BookAt.{IsHeldBySomeView}
use Rattle.world_core.specs.declared.region.Region.{Region}
use Rattle.world_core.specs.declared.region.Region.TheVariants.{N, M}
use Rattle.world_core.specs.Shape.{Shape}
use Rattle.world_core.specs.Local.{Local, fresh}
use Rattle.world_core.specs.World.{World, IsReachable}

-- How far a call has come: it is announced and its view isn't taken yet; or it has a record, and no
-- cut was seen for it yet; or it has a record, which its caller has published, and a seen cut.
pub data Reached : Type 0 where
  Is_announced : Reached
  Has_record : (r : Record) → Reached
  Has_seen : (r : Record) (cut : List ℕ) → Reached

-- A call that a caller made: its operation, and how far it has come.
pub record Made : Type 0 where
  pub operation : ℕ
  pub reached : Reached

-- The record of call k of a local: reply k and view k.
abbrev pub record_in : Local → ℕ → Record
record_in l k = record { reply = slice_index l.replies k; view = slice_index_or l.views k [] }

-- How far call k of a local has come: it has seen a cut where there is a seen cut k, which is the
-- call's; otherwise it has a record where there is a view k; and otherwise it is announced.
abbrev pub reached_in : Local → ℕ → Reached
reached_in l k =
    if nat_lt k (length l.seen)
    then Has_seen (record_in l k) (slice_index_or l.seen k [])
    else (if nat_lt k (length l.views) then Has_record (record_in l k) else Is_announced)

-- Call k of a local, with its operation and how far it has come.
abbrev pub call_in : Local → ℕ → Made
call_in l k = record { operation = slice_index l.operations k; reached = reached_in l k }

-- All announced calls of a local, by number.
abbrev pub calls_in : Local → List Made
calls_in l = map (λ k. call_in l k) (range_with_len 0 (length l.operations))

-- The record of a call that has come this far, as a list of one, or the empty list where the call
-- has no record.
abbrev pub records_of : Reached → List Record
records_of Is_announced = []
records_of (Has_record r) = r ∷ []
records_of (Has_seen r cut) = r ∷ []

-- The page of one caller's calls: their operations, and the records of those that have one.
abbrev pub page_with : List Made → Page
page_with calls = record {
  operations = map (λ (c : Made). c.operation) calls;
  records = flat_map (λ (c : Made). records_of c.reached) calls;
}

-- The book of the calls of all callers: a page for each caller.
abbrev pub book_of : List (List Made) → List Page
book_of calls = map page_with calls

-- The book of some callers' locals: a page for each local, of that local's calls.
abbrev pub book_in : List Local → List Page
book_in locals = book_of (map calls_in locals)

-- The local of caller i in a list of locals, and the fresh local where the list has no local i.
abbrev pub local_at : List Local → ℕ → Local
local_at locals i = slice_index_or locals i fresh

-- Locals are together where some reachable world has exactly these locals.
abbrev pub AreTogether : Shape → List Local → Type 0
AreTogether s locals = (w : World) × IsReachable s w × (w.locals ≡ locals)

-- In some reachable world caller i, one of the callers, has this local.
abbrev pub IsLocalOf : Shape → ℕ → Local → Type 0
IsLocalOf s i l = (locals : List Local) × AreTogether s locals × (i < s.callers)
    × (local_at locals i ≡ l)

-- A cut counts published records alone: it has one count for each local, which is at most the
-- number of records that this local's caller has published.
pub record IsPublished (locals : List Local) (cut : List ℕ) : Type 0 where
  pub wide : length cut ≡ length locals
  pub within : (i : ℕ) → i < length locals → slice_index cut i ≤ (local_at locals i).published

-- The caller with this local peeked word x at a place of a region in the row of a call.
abbrev pub HasPeeked : Local → Region → Call → ℕ → ℕ → Type 0
HasPeeked l region call place x =
    Contains l.peeked
    (record { region = region; caller = call.caller; row = call.number; place = place; word = x })

-- A caller with local l has gathered a book of n callers at a cut. The book has n pages, of each
-- caller as many records as the cut counts for it, and exactly the calls that the view of some
-- record within the cut holds; and the caller has peeked the words of the book: the low and the
-- high word of each operation, each reply, and each of the n entries of each view.
pub record IsGathered (n : ℕ) (l : Local) (cut : List ℕ) (book : List Page) : Type 0 where
  pub callers : length book ≡ n
  pub records : (i : ℕ) → i < n → answers_of book i ≡ slice_index cut i
  pub calls : (call : Call) → IsCall book call ↔ IsHeldBySomeView book cut call
  pub operations : (call : Call) (op : ℕ) → operation_of book call ≡ Some op
      → HasPeeked l N call 0 (low_of op) × HasPeeked l N call 1 (high_of op)
  pub replies : (call : Call) (r : Record) → record_of book call ≡ Some r
      → HasPeeked l M call 0 r.reply
  pub views : (call : Call) (r : Record) → record_of book call ≡ Some r
      → (length r.view ≡ n) × ((j : ℕ) → j < n → HasPeeked l M call (1 + j) (slice_index r.view j))
