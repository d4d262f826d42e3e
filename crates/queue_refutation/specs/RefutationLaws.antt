-- Closed lists of standings, pairs and legal orders.
use Rattle.std.specs.Prelude.{◌≡◌, ℕ, ◌≤◌, List, [], ◌∷◌, length}
use Rattle.book_base.specs.SeqSpec.{SeqSpec}
use Rattle.book_base.specs.Book.{Page, IsValid}
use Rattle.book_base.specs.Order.{HasLegalOrder}
use Rattle.book_base.specs.Pruning.{HasOneOpen}
use Rattle.legal_orders.specs.Container.{Reading, IsQueue}
use Rattle.queue_pairs.specs.Pairs.{Paired, Pair, PairStep, Pairs, MayPair, AreSteps, none_paired}
use Rattle.queue_refutation.specs.Closed.{IsOnePaired, PairServesFor, IsUnanswered, AreClosed, HasSuccessors}

-- In a valid book with one open, no steps lead from a standing of a closed list to one that is
-- whole.
abbrev pub ClosedStandingsAreDead : Type 0
ClosedStandingsAreDead = (reading : Reading) (book : List Page) (standings : List Paired)
    (s : Paired) (steps : List PairStep) → IsValid book → HasOneOpen book
    → AreClosed reading book standings → IsOnePaired standings s → AreSteps reading book s steps → ⊥

-- A valid book with one open has no legal order for a queue that begins empty, where a closed list
-- of standings has the one that covers no call.
abbrev pub ClosedStartsHaveNoOrder : Type 0
ClosedStartsHaveNoOrder = (reading : Reading) (spec : SeqSpec)
    (book : List Page) (callers : ℕ) (standings : List Paired)
    → IsQueue reading spec.next → reading.values spec.init ≡ [] → IsValid book → HasOneOpen book
    → AreClosed reading book standings → IsOnePaired standings (none_paired callers)
    → HasLegalOrder spec book → ⊥

-- In a book with one open, where steps lead to a whole standing and begin with a pair of which
-- neither call is answered, the steps after this pair lead to a whole standing without it too.
abbrev pub UnansweredPairsAreIdle : Type 0
UnansweredPairsAreIdle = (reading : Reading) (book : List Page) (s : Paired) (pair : Pair)
    (steps : List PairStep) → HasOneOpen book → length book ≤ length s.puts
    → length book ≤ length s.takes → IsUnanswered book pair
    → AreSteps reading book s (Pairs pair ∷ steps) → AreSteps reading book s steps

-- A pair that may come next serves for itself.
abbrev pub PairsServeForThemselves : Type 0
PairsServeForThemselves = (reading : Reading) (book : List Page) (s : Paired) (pair : Pair)
    → MayPair reading book s pair → PairServesFor reading book s pair pair

-- A list of standings is closed where each of them has counts for all callers of the book and isn't
-- whole, in each the last put has no later moment than the last take, and the list has the standing
-- after each step that may come next.
abbrev pub SuccessorsSuffice : Type 0
SuccessorsSuffice = (reading : Reading) (book : List Page) (standings : List Paired)
    → ((s : Paired) → IsOnePaired standings s → HasSuccessors reading book standings s)
    → AreClosed reading book standings
