-- Why entries don't refute a queue's book: the tests that may fail, and the order in which these
-- are tried.
use Rattle.std.specs.Prelude.{◌≡◌, ℕ, ◌+◌, ◌<◌, ◌⊎◌, List, length, Some, slice_get}
use Rattle.book_base.specs.declared.call.Call.{Call}
use Rattle.book_base.specs.Book.{Page}
use Rattle.book_base.specs.Pruning.{HasOneOpen}
use Rattle.seq_objects.specs.declared.kind.Kind.TheVariants.{Queue}
use Rattle.seq_objects.specs.Objects.{kind_spec}
use Rattle.kind_search.specs.Readings.{queue_reading}
use Rattle.queue_pairs.specs.declared.table.Table.{Table}
use Rattle.queue_pairs.specs.Pairs.{Paired}
use Rattle.queue_pairs.specs.Tables.{IsTable}
use Rattle.refutations.specs.Impossible.{IsImpossible, IsLesser}
use Rattle.pair_refutations.specs.declared.closed.OpenFault.{OpenFault}
use Rattle.pair_refutations.specs.declared.closed.OpenFault.TheVariants as open_at
use Rattle.pair_refutations.specs.declared.entry.PairEntry.{PairEntry}
use Rattle.pair_refutations.specs.declared.fault.PairFault.{PairFault}
use Rattle.pair_refutations.specs.declared.fault.PairFault.TheVariants.{Open, Odd, Unlisted, Whole, Leads}
use Rattle.pair_refutations.specs.Moves.{IsMoveBefore}
use Rattle.pair_refutations.specs.Closed.{IsWholeStanding, GoesOn, MakesOf, AreMade, MakeClosed}

-- Entries refute a queue's book: no view holds two unanswered calls of one caller, some state gives
-- each recorded reply, and the entries make a closed list of standings.
pub record Refute (book : List Page) (entries : List PairEntry) : Type 0 where
  pub one_open : HasOneOpen book
  pub possible : (call : Call) → IsImpossible (kind_spec Queue) book call → ⊥
  pub closed : MakeClosed queue_reading book entries

-- A table has a queue's book: the book is valid, and within the limits of books.
unfoldable pub HasTable : List Page → Type 0
HasTable book = (table : Table) × IsTable queue_reading book table

-- A book passes the tests of a book: no view holds two unanswered calls of one caller, and some
-- state gives each recorded reply.
abbrev pub PassesTests : List Page → Type 0
PassesTests book = HasOneOpen book
    × ((call : Call) → IsImpossible (kind_spec Queue) book call → ⊥)

-- the fault of entries whose list isn't closed
abbrev pub fault_of : OpenFault → PairFault
fault_of (open_at.Whole e) = Whole e
fault_of (open_at.Leads e move) = Leads e move

-- The entries fail the test that a fault names, for a queue's book.
abbrev pub FailsTest : List Page → List PairEntry → PairFault → Type 0
-- some view holds two unanswered calls of one caller
FailsTest book entries Open = HasOneOpen book → ⊥
-- no state gives the call its recorded reply
FailsTest book entries (Odd call) = IsImpossible (kind_spec Queue) book call
-- entry e, counted from 1, makes no standing of those that the entries before it make
FailsTest book entries (Unlisted e) = (k : ℕ) × (standings : List Paired) × (entry : PairEntry)
    × (e ≡ k + 1) × AreMade queue_reading book entries k standings
    × (slice_get entries k ≡ Some entry)
    × ((next : Paired) → MakesOf queue_reading book standings entry next → ⊥)
-- standing e, counted from 0, is whole
FailsTest book entries (Whole e) = (standings : List Paired) × (s : Paired)
    × AreMade queue_reading book entries (length entries) standings
    × (slice_get standings e ≡ Some s) × IsWholeStanding queue_reading book s
-- the move at standing e leads out of the list, and no other one serves for it
FailsTest book entries (Leads e move) = (standings : List Paired) × (s : Paired)
    × AreMade queue_reading book entries (length entries) standings
    × (slice_get standings e ≡ Some s) × (GoesOn queue_reading book standings s move → ⊥)

-- the turn of a test: the book is tried before the entries, and these before the standings
abbrev pub turn_of : PairFault → ℕ
turn_of Open = 0
turn_of (Odd call) = 1
turn_of (Unlisted e) = 2
turn_of (Whole e) = 3
turn_of (Leads e move) = 3

-- Of two tests in one turn the first is tried before the second: it is of a lesser call, of an
-- earlier entry, of an earlier standing, or of the same standing and an earlier one of this.
abbrev pub IsBeforeInTurn : PairFault → PairFault → Type 0
IsBeforeInTurn (Odd a) (Odd b) = IsLesser a b
IsBeforeInTurn (Unlisted e) (Unlisted f) = e < f
IsBeforeInTurn (Whole e) (Whole f) = e < f
IsBeforeInTurn (Whole e) (Leads f move) = (e < f) ⊎ (e ≡ f)
IsBeforeInTurn (Leads e move) (Whole f) = e < f
IsBeforeInTurn (Leads e move) (Leads f other) = (e < f) ⊎ ((e ≡ f) × IsMoveBefore move other)
IsBeforeInTurn e f = ⊥

-- one test is tried before another
abbrev pub IsTriedBefore : PairFault → PairFault → Type 0
IsTriedBefore e f = (turn_of e < turn_of f) ⊎ IsBeforeInTurn e f

-- The fault names the first test that the entries fail.
pub record IsFirstFault (book : List Page) (entries : List PairEntry) (fault : PairFault)
    : Type 0 where
  pub fails : FailsTest book entries fault
  pub first : (other : PairFault) → IsTriedBefore other fault → FailsTest book entries other → ⊥
