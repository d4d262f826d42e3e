use Rattle.std.proofs.Common.{◌≡◌, ℕ, ◌<◌, List, Some, slice_get}
use Rattle.book_base.specs.Book.{Page}
use Rattle.legal_orders.specs.Container.{Reading}
use Rattle.queue_pairs.specs.Pairs.{Paired}
use Rattle.queue_pairs.specs.Tables.{IsTable}
use Rattle.pair_refutations.specs.Closed.{IsClosedStanding}
use Rattle.pair_refutations.specs.Tabled.{standings_of}
use Rattle.pair_refutations.proofs.closed.first_open.Given as goal

abbrev pub invariant-loop-number : goal.invariant-loop-number
invariant-loop-number l = (n : ℕ) (s : Paired) → n < l.number
    → slice_get (standings_of l.standings) n ≡ Some s
    → (reading : Reading) (book : List Page) → IsTable reading book l.table
    → IsClosedStanding reading book (standings_of l.standings) s
