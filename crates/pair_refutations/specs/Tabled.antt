-- Standings as a check stores them, and what it finds of them in a table of the book's calls.
use Rattle.std.specs.Prelude.{◌≡◌, ℕ, ◌<◌, ◌≤◌, ◌⊎◌, List, Some, slice_get}
use Rattle.book_base.specs.Book.{Page}
use Rattle.legal_orders.specs.Container.{Reading}
use Rattle.queue_pairs.specs.declared.TheConstants.{NEVER}
use Rattle.queue_pairs.specs.declared.next_entries.NextEntries.{NextEntries}
use Rattle.queue_pairs.specs.declared.next_entries.TimedPair.{TimedPair}
use Rattle.queue_pairs.specs.declared.standing.PairState.{PairState}
use Rattle.queue_pairs.specs.declared.table.QueueDeal.{QueueDeal}
use Rattle.queue_pairs.specs.declared.table.QueueDeal.TheVariants as did
use Rattle.queue_pairs.specs.declared.table.Table.{Table}
use Rattle.queue_pairs.specs.Pairs.{Paired, Pair, Pairs, after}
use Rattle.queue_pairs.specs.Tables.{IsTable}
use Rattle.queue_pairs.specs.NextEntries.{paired, pair_of, AreNextEntries, IsNextPair}
use Rattle.queue_refutation.specs.DeadEnds.{listed}
use Rattle.pair_refutations.specs.declared.closed.OpenFault.{OpenFault}
use Rattle.pair_refutations.specs.declared.closed.OpenFault.TheVariants.{Whole, Leads}
use Rattle.pair_refutations.specs.declared.entry.Move.{Move}
use Rattle.pair_refutations.specs.declared.standings.Standings.{Standings}
use Rattle.pair_refutations.specs.Moves.{IsPairMove, IsMoveBefore}
use Rattle.pair_refutations.specs.Closed.{IsWholeStanding, LeadsOn, GoesOn, IsClosedStanding}

-- the standings of a stored list
abbrev pub standings_of : Standings → List Paired
standings_of standings = listed standings.all.items

-- The stored set has the same standings as the stored list.
pub record AreKnown (standings : Standings) : Type 0 where
  pub known : (k : ℕ) (s : PairState) → slice_get standings.known.keys k ≡ Some s
      → (j : ℕ) × (slice_get standings.all.items j ≡ Some s)
  pub all : (k : ℕ) (s : PairState) → slice_get standings.all.items k ≡ Some s
      → (j : ℕ) × (slice_get standings.known.keys j ≡ Some s)

-- a standing has moments of the book's views
abbrev pub IsEarly : PairState → Type 0
IsEarly s = (s.put_moment < NEVER) × (s.take_moment < NEVER)

-- all stored standings have moments of the book's views
abbrev pub AreEarly : Standings → Type 0
AreEarly standings = (k : ℕ) (s : PairState) → slice_get standings.all.items k ≡ Some s
    → IsEarly s

-- a table is that of some book
abbrev pub IsOfBook : Table → Type 0
IsOfBook table = (reading : Reading) × (book : List Page) × IsTable reading book table

-- a take's deal is that of a take which may take out what a put's deal puts in
abbrev pub MayTake : QueueDeal → QueueDeal → Type 0
MayTake put take = (v : ℕ) × (put ≡ did.Put v) × ((take ≡ did.Took v) ⊎ (take ≡ did.OpenTake))

-- A pair's calls make a move: some views hold them, the take may take out what is put in, one of
-- them is answered, and both are due at their moments or later.
pub record MakesMove (pair : TimedPair) : Type 0 where
  pub put_held : pair.put.span.first < NEVER
  pub take_held : pair.take.span.first < NEVER
  pub takes : MayTake pair.put.deal pair.take.deal
  pub answered : (pair.put.span.last < NEVER) ⊎ (pair.take.span.last < NEVER)
  pub put_due : pair.put_moment ≤ pair.put.span.last
  pub take_due : pair.take_moment ≤ pair.take.span.last

-- What is said of a book holds of each one that has a table with these next entries at a standing.
abbrev pub OfEach : PairState → NextEntries → (Reading → List Page → Table → Type 0) → Type 0
OfEach s next says = (reading : Reading) (book : List Page) (table : Table)
    → IsTable reading book table → AreNextEntries table s next → says reading book table

-- A pair is a move at a standing, and leads to one of the given standings or to a late one.
abbrev pub IsGood : Reading → List Page → List Paired → PairState → Pair → Type 0
IsGood reading book standings s pair = IsPairMove reading book (paired s) pair
    × LeadsOn reading book standings (after (paired s) (Pairs pair))

-- a pair is of a putter below `i`, or of the putter `i` and a taker below `j`
abbrev pub IsOfBelow : ℕ → ℕ → Pair → Type 0
IsOfBelow i j pair = (pair.put.caller < i)
    ⊎ ((pair.put.caller ≡ i) × (pair.take.caller < j))

-- A list has the good pairs of a standing up to a pair of callers, and no others.
pub record AreGoodTo (reading : Reading) (book : List Page) (table : Table)
    (standings : List Paired) (s : PairState) (i j : ℕ) (pairs : List TimedPair) : Type 0 where
  pub next : (k : ℕ) (t : TimedPair) → slice_get pairs k ≡ Some t → IsNextPair table s t
  pub good : (k : ℕ) (t : TimedPair) → slice_get pairs k ≡ Some t
      → IsGood reading book standings s (pair_of t)
  pub all : (pair : Pair) → IsOfBelow i j pair → IsGood reading book standings s pair
      → (k : ℕ) × (t : TimedPair) × (slice_get pairs k ≡ Some t) × (pair_of t ≡ pair)

-- A fault is the first of the tests of a standing with this number that a list fails.
abbrev pub IsOpenAt : Reading → List Page → List Paired → ℕ → Paired → OpenFault → Type 0
IsOpenAt reading book standings number s (Whole e) = (e ≡ number) × IsWholeStanding reading book s
IsOpenAt reading book standings number s (Leads e move) = (e ≡ number)
    × (IsWholeStanding reading book s → ⊥) × (GoesOn reading book standings s move → ⊥)
    × ((other : Move) → IsMoveBefore other move → GoesOn reading book standings s other)

-- A fault is the first of the tests of all standings that a list fails.
pub record IsFirstOpen (reading : Reading) (book : List Page) (standings : List Paired)
    (fault : OpenFault) : Type 0 where
  pub number : ℕ
  pub s : Paired
  pub there : slice_get standings number ≡ Some s
  pub fault_there : IsOpenAt reading book standings number s fault
  pub before : (e : ℕ) (other : Paired) → e < number → slice_get standings e ≡ Some other
      → IsClosedStanding reading book standings other
