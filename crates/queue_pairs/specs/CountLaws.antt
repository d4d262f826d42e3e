-- Counts of puts and takes by which a container's book has no legal order.
use Rattle.std.specs.Prelude.{◌≡◌, ℕ, ◌<◌, ◌≤◌, List, Some}
use Rattle.book_base.specs.declared.call.Call.{Call}
use Rattle.book_base.specs.declared.call.Record.{Record}
use Rattle.book_base.specs.Book.{Page, record_of}
use Rattle.legal_orders.specs.Container.{Reading}
use Rattle.legal_orders.specs.Deals as deals
use Rattle.legal_orders.specs.Deals.{deal_of}
use Rattle.queue_pairs.specs.declared.TheConstants.{NEVER}
use Rattle.queue_pairs.specs.declared.table.Table.{Table}
use Rattle.queue_pairs.specs.Moments.{moment_of, IsHeldBy}
use Rattle.queue_pairs.specs.Counts.{PutsAhead, TakesAhead, ContainerHasNoOrder}

-- Where more takes of some values have taken effect by a moment than puts of them may have by then,
-- no container that begins empty has a legal order of a book with this table.
abbrev pub TakesFollowPuts : Type 0
TakesFollowPuts = (reading : Reading) (book : List Page) (table : Table) (values : List ℕ) (m : ℕ)
    → m < NEVER → TakesAhead table values m m → ContainerHasNoOrder reading table book

-- A take finds nothing, and no view up to the moment `m` holds it. Where more puts of some values
-- have taken effect by `m` than takes may have taken out by the moment `n`, which is that of the
-- take's own view or later, no container that begins empty has a legal order of a book with this
-- table.
abbrev pub FindsLeaveNothing : Type 0
FindsLeaveNothing = (reading : Reading) (book : List Page) (table : Table) (find : Call)
    (r : Record) (values : List ℕ) (m n : ℕ) → deal_of reading book find ≡ deals.FoundNothing
    → record_of book find ≡ Some r → (IsHeldBy book find m → ⊥) → moment_of r ≤ n → m < NEVER
    → PutsAhead table values m n → ContainerHasNoOrder reading table book
