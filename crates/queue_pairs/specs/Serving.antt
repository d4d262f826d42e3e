-- Choices that needn't be tried: of two puts of one value, and of two takes of one deal, one serves
-- for the other.
use Rattle.std.specs.Prelude.{◌≡◌, ◌≢◌, ℕ, ◌≤◌, List, ◌∷◌, length, Some}
use Rattle.book_base.specs.declared.call.Call.{Call}
use Rattle.book_base.specs.declared.call.Record.{Record}
use Rattle.book_base.specs.Book.{Page, IsValid, record_of}
use Rattle.book_base.specs.Pruning.{HasOneOpen}
use Rattle.legal_orders.specs.Container.{Reading}
use Rattle.legal_orders.specs.Deals.{deal_of}
use Rattle.queue_pairs.specs.Moments.{moment_of, MayTakeEffect}
use Rattle.queue_pairs.specs.Pairs.{Paired, Pair, PairStep, Pairs, IsPutOf, IsPut, IsTake, IsNext, AreSteps}

-- A call `other` is due no later than a call `call`: where `call` is answered, `other` is answered
-- too, and its view has no later moment.
abbrev pub IsDueNoLater : List Page → Call → Call → Type 0
IsDueNoLater book other call = (r : Record) → record_of book call ≡ Some r → (o : Record)
    × (record_of book other ≡ Some o) × (moment_of o ≤ moment_of r)

-- From a standing, the pair `pair` and after it as many steps as `steps` has lead to a standing
-- that is whole.
abbrev pub GoesOnWith : Reading → List Page → Paired → Pair → List PairStep → Type 0
GoesOnWith reading book s pair steps = (other : List PairStep)
    × AreSteps reading book s (Pairs pair ∷ other) × (length other ≡ length steps)

-- Steps that begin with a pair lead from a standing to a whole one. Another caller's next put of
-- the same value may take effect no later than the pair's put and is due no later. Then as many
-- steps lead to a whole standing that begin with the pair with that other put in place of its own.
abbrev pub EarlierPutServes : Type 0
EarlierPutServes = (reading : Reading) (book : List Page) (s : Paired) (pair : Pair) (p : Call)
    (m : ℕ) (steps : List PairStep) → IsValid book → HasOneOpen book
    → length book ≤ length s.puts → AreSteps reading book s (Pairs pair ∷ steps)
    → ((v : ℕ) → IsPutOf reading book v pair.put → IsPutOf reading book v p)
    → IsNext (IsPut reading book) s.puts p → s.put_moment ≤ m → p.caller ≢ pair.put.caller
    → MayTakeEffect book p m → m ≤ pair.put_moment → IsDueNoLater book p pair.put
    → GoesOnWith reading book s (record pair { put = p; put_moment = m }) steps

-- Steps that begin with a pair lead from a standing to a whole one. Another caller's next take of
-- the same deal may take effect no later than the pair's take and is due no later. Then as many
-- steps lead to a whole standing that begin with the pair with that other take in place of its own.
abbrev pub EarlierTakeServes : Type 0
EarlierTakeServes = (reading : Reading) (book : List Page) (s : Paired) (pair : Pair) (p : Call)
    (m : ℕ) (steps : List PairStep) → IsValid book → HasOneOpen book
    → length book ≤ length s.takes → AreSteps reading book s (Pairs pair ∷ steps)
    → deal_of reading book p ≡ deal_of reading book pair.take
    → IsNext (IsTake reading book) s.takes p → (s.take_moment ≤ m) × (pair.put_moment ≤ m)
    → p.caller ≢ pair.take.caller
    → MayTakeEffect book p m → m ≤ pair.take_moment → IsDueNoLater book p pair.take
    → GoesOnWith reading book s (record pair { take = p; take_moment = m }) steps
