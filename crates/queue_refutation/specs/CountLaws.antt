-- Counts and pairs: the values put in by a moment and those taken out by another one are both
-- prefixes of one list.
use Rattle.std.specs.Prelude.{ℕ, ◌<◌, List, [], ◌∷◌}
use Rattle.book_base.specs.Book.{Page}
use Rattle.legal_orders.specs.Container.{Reading}
use Rattle.queue_pairs.specs.declared.TheConstants.{NEVER}
use Rattle.queue_pairs.specs.declared.table.Table.{Table}
use Rattle.queue_pairs.specs.Pairs.{HasPairs}
use Rattle.queue_pairs.specs.Tables.{IsTable}
use Rattle.queue_pairs.specs.Counts.{PutsAhead, TakesAhead}

-- In a queue's book that has pairs: where takes of a value by one moment are ahead of its puts by
-- another moment, the takes' moment is later than the puts' moment, and no value's puts by the
-- puts' moment are ahead of its takes by the takes' moment.
abbrev pub TakesFollowPuts : Type 0
TakesFollowPuts = (reading : Reading) (book : List Page) (table : Table) (v u m n : ℕ)
    → IsTable reading book table → HasPairs reading book → m < NEVER → n < NEVER
    → TakesAhead table (v ∷ []) m n → (m < n) × (PutsAhead table (u ∷ []) m n → ⊥)
