-- What the calls of a book put in and take out.
use Rattle.std.specs.Prelude.{◌≡◌, ℕ, List, Option, Some, None}
use Rattle.book_base.specs.declared.call.Call.{Call}
use Rattle.book_base.specs.declared.call.Record.{Record}
use Rattle.book_base.specs.Book.{Page, operation_of, record_of}
use Rattle.legal_orders.specs.Container.{Puts, Takes, Reading}

-- a call of the book puts in a value
abbrev pub PutsIn : Reading → List Page → Call → ℕ → Type 0
PutsIn reading book call v = (op : ℕ) × (operation_of book call ≡ Some op)
    × (reading.deed op ≡ Puts v)

-- the call is the only one of the book that puts in the value
abbrev pub PutsInAlone : Reading → List Page → Call → ℕ → Type 0
PutsInAlone reading book call v = PutsIn reading book call v
    × ((other : Call) → PutsIn reading book other v → other ≡ call)

-- the call is an answered take of the book, and its reply shows this value, or that there was none
abbrev pub TakesShowing : Reading → List Page → Call → Option ℕ → Type 0
TakesShowing reading book call shown = (op : ℕ) × (r : Record) × (operation_of book call ≡ Some op)
    × (record_of book call ≡ Some r)
    × (reading.deed op ≡ Takes) × (reading.shown r.reply ≡ shown)

-- the call is answered and takes out a value
abbrev pub TakesOut : Reading → List Page → Call → ℕ → Type 0
TakesOut reading book call v = TakesShowing reading book call (Some v)

-- the call is an answered take that found nothing
abbrev pub FindsNothing : Reading → List Page → Call → Type 0
FindsNothing reading book call = TakesShowing reading book call None

-- no answered call takes out the value
abbrev pub IsNeverTaken : Reading → List Page → ℕ → Type 0
IsNeverTaken reading book v = (call : Call) → TakesOut reading book call v → ⊥
