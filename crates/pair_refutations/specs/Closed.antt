-- Closed lists of standings, and the entries that make them. A list is closed where none of its
-- standings is whole, and each move at one of them leads to one of them or to a late one, or
-- another move serves for it. Then the book has no legal order for a queue that begins empty.
use Rattle.std.specs.Prelude.{◌≡◌, ℕ, ◌+◌, ◌<◌, ◌≤◌, ◌⊎◌, List, length, Some, slice_get, slice_index}
use Rattle.book_base.specs.declared.TheConstants.{MAX_CALLERS}
use Rattle.book_base.specs.declared.call.Call.{Call}
use Rattle.book_base.specs.Book.{Page}
use Rattle.legal_orders.specs.Container.{Reading}
use Rattle.legal_orders.specs.Deals as deals
use Rattle.legal_orders.specs.Deals.{deal_of}
use Rattle.queue_pairs.specs.Moments.{IsHeldBy}
use Rattle.queue_pairs.specs.Pairs.{Paired, Pair, Pairs, FindNothing, IsPutOf, after, none_paired}
use Rattle.queue_pairs.specs.Serving.{IsDueNoLater}
use Rattle.queue_refutation.specs.Closed.{IsOnePaired, IsOverdue}
use Rattle.pair_refutations.specs.declared.entry.Move.{Move}
use Rattle.pair_refutations.specs.declared.entry.Move.TheVariants.{Finds, Callers}
use Rattle.pair_refutations.specs.declared.entry.PairEntry.{PairEntry}
use Rattle.pair_refutations.specs.Moves.{IsPairMove, IsFindMove, IsOfCallers, MovesTo}

-- ---- standings that end a search

-- A standing is late: some put that it doesn't cover is due before its moment for puts, or some
-- such take, of a value or of nothing, before its moment for takes.
abbrev pub IsLate : Reading → List Page → Paired → Type 0
IsLate reading book s = IsOverdue reading book s s.put_moment s.take_moment

-- A standing is whole: it covers all answered takes.
pub record IsWholeStanding (reading : Reading) (book : List Page) (s : Paired) : Type 0 where
  pub taken : (t : Call) (v : ℕ) → deal_of reading book t ≡ deals.Took v
      → t.number < slice_index s.takes t.caller
  pub found : (e : Call) → deal_of reading book e ≡ deals.FoundNothing → IsHeldBy book e s.found

-- ---- closed lists

-- a standing is one of a list, or late
abbrev pub LeadsOn : Reading → List Page → List Paired → Paired → Type 0
LeadsOn reading book standings s = IsOnePaired standings s ⊎ IsLate reading book s

-- The pair `other` serves for `pair`: its put and its take did the same, at moments that are no
-- later, and are due no later.
pub record Serves (reading : Reading) (book : List Page) (other pair : Pair) : Type 0 where
  pub puts : (v : ℕ) → IsPutOf reading book v pair.put → IsPutOf reading book v other.put
  pub takes : deal_of reading book other.take ≡ deal_of reading book pair.take
  pub put_moment : other.put_moment ≤ pair.put_moment
  pub take_moment : other.take_moment ≤ pair.take_moment
  pub put_due : IsDueNoLater book other.put pair.put
  pub take_due : IsDueNoLater book other.take pair.take

-- Some move by a pair that serves for the given one leads to one of the standings or to a late one.
-- It may be the given pair itself, which serves for itself.
abbrev pub IsServed : Reading → List Page → List Paired → Paired → Pair → Type 0
IsServed reading book standings s pair = (other : Pair) × IsPairMove reading book s other
    × Serves reading book other pair × LeadsOn reading book standings (after s (Pairs other))

-- a move at a standing, where there is such a move, needs no search beyond the given standings
abbrev pub GoesOn : Reading → List Page → List Paired → Paired → Move → Type 0
GoesOn reading book standings s Finds = (g : ℕ) → IsFindMove reading book s g
    → LeadsOn reading book standings (after s (FindNothing g))
GoesOn reading book standings s (Callers i j) = (pair : Pair) → IsOfCallers i j pair
    → IsPairMove reading book s pair → IsServed reading book standings s pair

-- A list is closed at a standing: this isn't whole, and no move at it needs more search.
pub record IsClosedStanding (reading : Reading) (book : List Page) (standings : List Paired)
    (s : Paired) : Type 0 where
  pub unfinished : IsWholeStanding reading book s → ⊥
  pub moves : (move : Move) → GoesOn reading book standings s move

-- ---- lists that are made by entries

-- An entry makes a standing of some others: its move leads there from the one that it names.
abbrev pub MakesOf : Reading → List Page → List Paired → PairEntry → Paired → Type 0
MakesOf reading book standings entry next = (base : Paired)
    × (slice_get standings entry.item ≡ Some base) × MovesTo reading book base entry.by next

-- The first `k` entries make these standings: first there is the one that covers no call, and then
-- each entry makes one more, of those before it.
pub record AreMade (reading : Reading) (book : List Page) (entries : List PairEntry) (k : ℕ)
    (standings : List Paired) : Type 0 where
  pub long : length standings ≡ k + 1
  pub first : slice_get standings 0 ≡ Some (none_paired MAX_CALLERS)
  pub each : (j : ℕ) (next : Paired) → slice_get standings (j + 1) ≡ Some next
      → (entry : PairEntry) × (slice_get entries j ≡ Some entry) × (entry.item ≤ j)
      × MakesOf reading book standings entry next

-- Entries make a closed list of standings.
pub record MakeClosed (reading : Reading) (book : List Page) (entries : List PairEntry)
    : Type 0 where
  pub standings : List Paired
  pub made : AreMade reading book entries (length entries) standings
  pub closed : (s : Paired) → IsOnePaired standings s
      → IsClosedStanding reading book standings s
