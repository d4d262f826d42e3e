-- Tables whose books have no pairs.
use Rattle.std.specs.Prelude.{List}
use Rattle.book_base.specs.Book.{Page}
use Rattle.legal_orders.specs.Container.{Reading}
use Rattle.queue_pairs.specs.declared.table.Table.{Table}
use Rattle.queue_pairs.specs.Pairs.{HasPairs}
use Rattle.queue_pairs.specs.Tables.{IsTable}

-- No book that has this table has pairs.
abbrev pub HasNoPairs : Table → Type 0
HasNoPairs table = (reading : Reading) (book : List Page) → IsTable reading book table
    → HasPairs reading book → ⊥
