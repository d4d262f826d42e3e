-- The calls of a queue's book in a table: what each did, and when it may take effect.
use Rattle.std.specs.Prelude.{◌≡◌, ℕ, ◌<◌, ◌≤◌, ◌⊎◌, Bool, true, false, List, [], length, map, Option, Some, None, slice_get, slice_index_or, if◌then◌else◌}
use Rattle.book_base.specs.declared.call.Call.{Call}
use Rattle.book_base.specs.Book.{Page, calls_of, IsValid, IsSmall}
use Rattle.legal_orders.specs.Container.{Reading}
use Rattle.legal_orders.specs.Deals.{Deal as KnownDeal}
use Rattle.legal_orders.specs.Deals as deals
use Rattle.legal_orders.specs.Deals.{deal_of}
use Rattle.queue_pairs.specs.declared.table.QueueDeal.{QueueDeal}
use Rattle.queue_pairs.specs.declared.table.QueueDeal.TheVariants as did
use Rattle.queue_pairs.specs.declared.table.TimedCall.{TimedCall}
use Rattle.queue_pairs.specs.declared.table.Table.{Table}
use Rattle.queue_pairs.specs.Spans.{IsSpanOf}

-- the deal of `legal_orders` that a deal of a queue's table stands for
abbrev pub known_deal : QueueDeal → KnownDeal
known_deal (did.Put v) = deals.Put v
known_deal (did.Took v) = deals.Took v
known_deal did.FoundNothing = deals.FoundNothing
known_deal did.OpenTake = deals.OpenTake
known_deal did.Other = deals.Other

-- An entry of a table is right: it is that of a call, with what the call did, and when it may take
-- effect.
pub record IsTimed (reading : Reading) (book : List Page) (one : Call) (timed : TimedCall)
    : Type 0 where
  pub call : timed.call ≡ one
  pub deal : known_deal timed.deal ≡ deal_of reading book one
  pub span : IsSpanOf book one timed.span

-- A row has an entry for each call of a caller with a number below `below`, in order, and no
-- others.
pub record IsRowTo (reading : Reading) (book : List Page) (caller below : ℕ)
    (row : List TimedCall) : Type 0 where
  pub size : length row ≡ below
  pub calls : (n : ℕ) (t : TimedCall) → slice_get row n ≡ Some t
      → IsTimed reading book (record { caller = caller; number = n }) t

-- A list has a row for each caller below a number, in order, with all calls of the caller.
pub record AreRowsTo (reading : Reading) (book : List Page) (below : ℕ)
    (all : List (List TimedCall)) : Type 0 where
  pub size : length all ≡ below
  pub rows : (i : ℕ) (row : List TimedCall) → slice_get all i ≡ Some row
      → IsRowTo reading book i (calls_of book i) row

-- Each entry of a list is that of a take that finds nothing, and the list has an entry for each
-- such take of the callers below `caller`, and of `caller` with a number below `below`.
pub record AreFindsTo (reading : Reading) (book : List Page) (caller below : ℕ)
    (finds : List TimedCall) : Type 0 where
  pub right : (k : ℕ) (t : TimedCall) → slice_get finds k ≡ Some t
      → IsTimed reading book t.call t × (deal_of reading book t.call ≡ deals.FoundNothing)
  pub all : (e : Call) → (e.caller < caller) ⊎ ((e.caller ≡ caller) × (e.number < below))
      → deal_of reading book e ≡ deals.FoundNothing
      → (k : ℕ) × (t : TimedCall) × (slice_get finds k ≡ Some t) × (t.call ≡ e)

-- the rows of a table
abbrev pub rows_of : Table → List (List TimedCall)
rows_of table = map (λ row. row.items) table.rows.items

-- The table is that of a book, which is valid and within the limits that `IsSmall` sets.
pub record IsTable (reading : Reading) (book : List Page) (table : Table) : Type 0 where
  pub valid : IsValid book
  pub small : IsSmall book
  pub rows : AreRowsTo reading book (length book) (rows_of table)
  pub finds : AreFindsTo reading book (length book) 0 table.finds.items

-- the entry of a caller's call, where there is one
abbrev pub timed_at : Table → ℕ → ℕ → Option TimedCall
timed_at table caller number = slice_get (slice_index_or (rows_of table) caller []) number

-- whether a call with this deal puts a value in
abbrev pub is_put : QueueDeal → Bool
is_put (did.Put v) = true
is_put (did.Took v) = false
is_put did.FoundNothing = false
is_put did.OpenTake = false
is_put did.Other = false

-- whether a call with this deal takes a value out, or is an unanswered take
abbrev pub is_take : QueueDeal → Bool
is_take (did.Put v) = false
is_take (did.Took v) = true
is_take did.FoundNothing = false
is_take did.OpenTake = true
is_take did.Other = false

-- whether a call with this deal is a take that finds nothing
abbrev pub is_find : QueueDeal → Bool
is_find (did.Put v) = false
is_find (did.Took v) = false
is_find did.FoundNothing = true
is_find did.OpenTake = false
is_find did.Other = false

-- an entry, where what its call did passes a test
abbrev pub only_by : (QueueDeal → Bool) → Option TimedCall → Option TimedCall
only_by test None = None
only_by test (Some t) = if test t.deal then Some t else None

-- the entry of a caller's call, where it is a put
abbrev pub put_at : Table → ℕ → ℕ → Option TimedCall
put_at table caller number = only_by is_put (timed_at table caller number)

-- the entry of a caller's call, where it takes a value out or is an unanswered take
abbrev pub take_at : Table → ℕ → ℕ → Option TimedCall
take_at table caller number = only_by is_take (timed_at table caller number)

-- An entry is the first one that a function finds from a number on, or `None` where it finds none.
abbrev pub IsFirstFrom : (ℕ → Option TimedCall) → ℕ → Option TimedCall → Type 0
IsFirstFrom at from None = (n : ℕ) → from ≤ n → at n ≡ None
IsFirstFrom at from (Some t) = (n : ℕ) × (from ≤ n) × (at n ≡ Some t)
    × ((k : ℕ) → from ≤ k → k < n → at k ≡ None)
