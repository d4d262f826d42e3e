-- Standings that a search has entered, checked once more: what is said of them holds for every book
-- that has the table.
use Rattle.std.specs.Prelude.{◌≡◌, ℕ, List, [], map}
use Rattle.book_base.specs.declared.call.Call.{Call}
use Rattle.book_base.specs.SeqSpec.{SeqSpec}
use Rattle.book_base.specs.Book.{Page}
use Rattle.book_base.specs.Order.{HasLegalOrder}
use Rattle.legal_orders.specs.Container.{Reading, IsQueue}
use Rattle.queue_pairs.specs.declared.next_entries.TimedPair.{TimedPair}
use Rattle.queue_pairs.specs.declared.standing.PairState.{PairState}
use Rattle.queue_pairs.specs.declared.table.Table.{Table}
use Rattle.queue_pairs.specs.Pairs.{Paired, Pair, Pairs, MayPair, MayFind, after}
use Rattle.queue_pairs.specs.Tables.{IsTable}
use Rattle.queue_pairs.specs.NextEntries.{paired, pair_of, IsNextPair, CanReplace}
use Rattle.queue_refutation.specs.Closed.{IsOnePaired, PairLeads, FindsLead, FindsStandAtOnce, IsClosedAt}

-- the standings that a list of the code's standings in memory stands for
abbrev pub listed : List PairState → List Paired
listed standings = map paired standings

-- A book with this table has no legal order for a queue that begins empty.
abbrev pub QueueHasNoOrder : Table → List Page → Type 0
QueueHasNoOrder table book = (reading : Reading) (spec : SeqSpec)
    → IsTable reading book table → IsQueue reading spec.next → reading.values spec.init ≡ []
    → HasLegalOrder spec book → ⊥

-- Each pair of those that `these` describes, where it may come next at a standing, leads to one of
-- the given standings or needn't be tried, whatever book has the table.
abbrev pub Lead : (Pair → Type 0) → Table → List Paired → PairState → Type 0
Lead these table standings s = (reading : Reading) (book : List Page) (pair : Pair)
    → IsTable reading book table → these pair → MayPair reading book (paired s) pair
    → PairLeads reading book standings (paired s) pair

-- a pair has this put and this take
abbrev pub IsOf : Call → Call → Pair → Type 0
IsOf put take pair = (pair.put ≡ put) × (pair.take ≡ take)

-- a pair has this put and a take of this caller
abbrev pub IsOfTaker : Call → ℕ → Pair → Type 0
IsOfTaker put caller pair = (pair.put ≡ put) × (pair.take.caller ≡ caller)

-- a pair has this put
abbrev pub IsOfPut : Call → Pair → Type 0
IsOfPut put pair = pair.put ≡ put

-- a pair has a put of this caller
abbrev pub IsOfPutter : ℕ → Pair → Type 0
IsOfPutter caller pair = pair.put.caller ≡ caller

-- any pair
abbrev pub IsAny : Pair → Type 0
IsAny pair = Unit {0}

-- Takes that find nothing and may come next at a standing lead to one of the given standings or
-- needn't be tried, whatever book has the table.
abbrev pub FindsLeadOn : Table → List Paired → PairState → Type 0
FindsLeadOn table standings s = (reading : Reading) (book : List Page) (m : ℕ)
    → IsTable reading book table → MayFind reading book (paired s) m
    → FindsLead reading book standings (paired s) m

-- Takes that find nothing may be covered at once at a standing, and lead to one of the given
-- standings, whatever book has the table.
abbrev pub StandAtOnce : Table → List Paired → PairState → Type 0
StandAtOnce table standings s = (reading : Reading) (book : List Page) → IsTable reading book table
    → FindsStandAtOnce reading book standings (paired s)

-- A standing leads to the given standings alone, whatever book has the table.
abbrev pub ClosedAt : Table → List Paired → PairState → Type 0
ClosedAt table standings s = (reading : Reading) (book : List Page) → IsTable reading book table
    → IsClosedAt reading book standings (paired s)

-- A pair of next calls that serves for a given pair leads to one of the given standings.
abbrev pub IsServed : Table → List Paired → PairState → TimedPair → Type 0
IsServed table standings s pair = (other : TimedPair) × IsNextPair table s other
    × CanReplace other pair
    × IsOnePaired standings (after (paired s) (Pairs (pair_of other)))
