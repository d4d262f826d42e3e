use Rattle.std.proofs.Common.{List}
use Rattle.book_base.specs.Book.{Page}
use Rattle.legal_orders.specs.Container.{Reading}
use Rattle.queue_pairs.specs.Tables.{IsTable}
use Rattle.pair_refutations.specs.Tabled.{standings_of, AreGoodTo}
use Rattle.pair_refutations.proofs.closed.add_good_of.Given as goal

abbrev pub invariant-loop-taker : goal.invariant-loop-taker
invariant-loop-taker l = (reading : Reading) (book : List Page) → IsTable reading book l.table
    → AreGoodTo reading book l.table (standings_of l.standings) l.standing l.putter 0
    l.fn.good.items
    → AreGoodTo reading book l.table (standings_of l.standings) l.standing l.putter l.taker
    l.good.items
