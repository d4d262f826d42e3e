-- Moves of a queue's standings: one more pair of a put and a take, or the takes that find nothing
-- and begin first. Each move has the earliest moments that it may have.
use Rattle.std.specs.Prelude.{◌≡◌, ℕ, ◌<◌, ◌≤◌, ◌⊎◌, List, max}
use Rattle.book_base.specs.declared.call.Call.{Call}
use Rattle.book_base.specs.Book.{Page}
use Rattle.legal_orders.specs.Container.{Reading}
use Rattle.legal_orders.specs.Deals as deals
use Rattle.legal_orders.specs.Deals.{deal_of}
use Rattle.queue_pairs.specs.Moments.{IsHeldBy}
use Rattle.queue_pairs.specs.Pairs.{Paired, Pair, Pairs, FindNothing, MayPair, after}
use Rattle.queue_refutation.specs.Closed.{IsUnanswered}
use Rattle.pair_refutations.specs.declared.entry.Move.{Move}
use Rattle.pair_refutations.specs.declared.entry.Move.TheVariants.{Finds, Callers}

-- A call begins at a moment: it is the least moment of a view that holds the call.
pub record Begins (book : List Page) (call : Call) (m : ℕ) : Type 0 where
  pub held : IsHeldBy book call m
  pub least : (n : ℕ) → IsHeldBy book call n → m ≤ n

-- A pair is a move at a standing: it may come next there, one of its calls is answered, and its
-- moments are the earliest. The put's moment is the greater of the standing's for puts and of that
-- at which the put begins; the take's is the greatest of the standing's for takes, of that at which
-- the take begins, and of the put's.
pub record IsPairMove (reading : Reading) (book : List Page) (s : Paired) (pair : Pair)
    : Type 0 where
  pub may : MayPair reading book s pair
  pub answered : IsUnanswered book pair → ⊥
  pub put_begin : ℕ
  pub put_begins : Begins book pair.put put_begin
  pub put_moment : pair.put_moment ≡ max s.put_moment put_begin
  pub take_begin : ℕ
  pub take_begins : Begins book pair.take take_begin
  pub take_moment : pair.take_moment ≡ max (max s.take_moment pair.put_moment) take_begin

-- Takes that find nothing are a move at a standing, with the moment `g`: some of them begin after
-- those that the standing covers, and `g` is the greater of the standing's moment for takes and of
-- the least at which one of these begins.
pub record IsFindMove (reading : Reading) (book : List Page) (s : Paired) (g : ℕ) : Type 0 where
  pub find : Call
  pub begin : ℕ
  pub finds : deal_of reading book find ≡ deals.FoundNothing
  pub begins : Begins book find begin
  pub later : s.found < begin
  pub first : (e : Call) (m : ℕ) → deal_of reading book e ≡ deals.FoundNothing
      → Begins book e m → s.found < m → begin ≤ m
  pub moment : g ≡ max s.take_moment begin

-- a pair has a put of one caller and a take of another
abbrev pub IsOfCallers : ℕ → ℕ → Pair → Type 0
IsOfCallers i j pair = (pair.put.caller ≡ i) × (pair.take.caller ≡ j)

-- a move leads from one standing to another
abbrev pub MovesTo : Reading → List Page → Paired → Move → Paired → Type 0
MovesTo reading book s Finds next = (g : ℕ) × IsFindMove reading book s g
    × (next ≡ after s (FindNothing g))
MovesTo reading book s (Callers i j) next = (pair : Pair) × IsOfCallers i j pair
    × IsPairMove reading book s pair × (next ≡ after s (Pairs pair))

-- one move is tried before another: takes that find nothing first, and then pairs by rising callers
-- of the put and then of the take
abbrev pub IsMoveBefore : Move → Move → Type 0
IsMoveBefore Finds Finds = ⊥
IsMoveBefore Finds (Callers i j) = Unit {0}
IsMoveBefore (Callers i j) Finds = ⊥
IsMoveBefore (Callers i j) (Callers k l) = (i < k) ⊎ ((i ≡ k) × (j < l))
