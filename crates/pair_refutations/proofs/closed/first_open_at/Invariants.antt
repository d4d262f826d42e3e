use Rattle.std.proofs.Common.{ℕ, ◌<◌, List}
use Rattle.book_base.specs.Book.{Page}
use Rattle.legal_orders.specs.Container.{Reading}
use Rattle.queue_pairs.specs.Tables.{IsTable}
use Rattle.queue_pairs.specs.NextEntries.{paired}
use Rattle.pair_refutations.specs.declared.entry.Move.TheVariants.{Callers}
use Rattle.pair_refutations.specs.Closed.{GoesOn}
use Rattle.pair_refutations.specs.Tabled.{standings_of}
use Rattle.pair_refutations.proofs.closed.first_open_at.Given as goal

abbrev pub invariant-loop-putter : goal.invariant-loop-putter
invariant-loop-putter l = (reading : Reading) (book : List Page) → IsTable reading book l.table
    → (i j : ℕ) → i < l.putter → GoesOn reading book (standings_of l.standings)
    (paired l.standing) (Callers i j)
