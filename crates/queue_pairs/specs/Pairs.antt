-- Pairs, which a queue's book may have instead of an order: the k-th put and the k-th take of an
-- order are a pair, since the first value that is put in is the first that is taken out.
use Rattle.std.specs.Prelude.{◌≡◌, ℕ, ◌+◌, ◌<◌, ◌≤◌, ◌⊎◌, List, [], ◌∷◌, length, replicate, Some, slice_index, slice_set}
use Rattle.book_base.specs.declared.call.Call.{Call}
use Rattle.book_base.specs.declared.call.Record.{Record}
use Rattle.book_base.specs.Book.{Page, record_of}
use Rattle.legal_orders.specs.Container.{Reading}
use Rattle.legal_orders.specs.Deals as deals
use Rattle.legal_orders.specs.Deals.{deal_of}
use Rattle.queue_pairs.specs.Moments.{moment_of, IsHeldBy, MayTakeEffect}

-- A standing says how far a queue's book has been paired. It covers of each caller the puts and the
-- takes below a number, and the takes that find nothing and that some view holds up to a moment;
-- and it has the moments of the last put and of the last take.
pub record Paired : Type 0 where
  pub puts : List ℕ
  pub takes : List ℕ
  pub found : ℕ
  pub put_moment : ℕ
  pub take_moment : ℕ

-- a put and a take, with their moments
pub record Pair : Type 0 where
  pub put : Call
  pub take : Call
  pub put_moment : ℕ
  pub take_moment : ℕ

-- A step from one standing to the next: a pair, or all takes that find nothing and that some view
-- holds up to a moment.
pub data PairStep : Type 0 where
  Pairs : Pair → PairStep
  FindNothing : ℕ → PairStep

-- a call puts in the value `v`
abbrev pub IsPutOf : Reading → List Page → ℕ → Call → Type 0
IsPutOf reading book v call = deal_of reading book call ≡ deals.Put v

-- a call puts in some value
abbrev pub IsPut : Reading → List Page → Call → Type 0
IsPut reading book call = (v : ℕ) × IsPutOf reading book v call

-- a call takes out the value `v`, or it is an unanswered take
abbrev pub MayTakeOut : Reading → List Page → ℕ → Call → Type 0
MayTakeOut reading book v call = (deal_of reading book call ≡ deals.Took v)
    ⊎ (deal_of reading book call ≡ deals.OpenTake)

-- a call takes out some value, or it is an unanswered take
abbrev pub IsTake : Reading → List Page → Call → Type 0
IsTake reading book call = (v : ℕ) × MayTakeOut reading book v call

-- A call of a kind is its caller's next one where its number isn't below the one that `numbers` has
-- for the caller, and no call of the caller from that number on and before this call is of the
-- kind. That the call itself is of the kind isn't said here.
pub record IsNext (kind : Call → Type 0) (numbers : List ℕ) (call : Call) : Type 0 where
  pub outside : slice_index numbers call.caller ≤ call.number
  pub first : (n : ℕ) → slice_index numbers call.caller ≤ n → n < call.number
      → kind (record { caller = call.caller; number = n }) → ⊥

-- A pair may come next at a standing: its calls are the next put and the next take of their
-- callers, the take takes out what is put in, and they take effect no earlier than the last put and
-- the last take so far, the take no earlier than the put.
pub record MayPair (reading : Reading) (book : List Page) (s : Paired) (pair : Pair) : Type 0 where
  pub value : ℕ
  pub puts : IsPutOf reading book value pair.put
  pub takes : MayTakeOut reading book value pair.take
  pub put : IsNext (IsPut reading book) s.puts pair.put
  pub take : IsNext (IsTake reading book) s.takes pair.take
  pub after_puts : s.put_moment ≤ pair.put_moment
  pub after_takes : s.take_moment ≤ pair.take_moment
  pub in_turn : pair.put_moment ≤ pair.take_moment
  pub put_effect : MayTakeEffect book pair.put pair.put_moment
  pub take_effect : MayTakeEffect book pair.take pair.take_moment

-- The takes that find nothing and that some view holds up to a moment `m` may come next at a
-- standing: `m` is no earlier than the moment of the last take so far, and no later than that of
-- the own view of each of these takes that isn't covered yet.
pub record MayFind (reading : Reading) (book : List Page) (s : Paired) (m : ℕ) : Type 0 where
  pub after_takes : s.take_moment ≤ m
  pub in_time : (e : Call) (r : Record) → deal_of reading book e ≡ deals.FoundNothing
      → record_of book e ≡ Some r → IsHeldBy book e m
      → (IsHeldBy book e s.found → ⊥) → m ≤ moment_of r

-- a step may come next at a standing
abbrev pub MayStep : Reading → List Page → Paired → PairStep → Type 0
MayStep reading book s (Pairs pair) = MayPair reading book s pair
MayStep reading book s (FindNothing m) = MayFind reading book s m

-- the standing after a step; after takes that find nothing up to a moment, the last put and the
-- last take count as having this moment
abbrev pub after : Paired → PairStep → Paired
after s (Pairs pair) = record s {
  puts = slice_set s.puts pair.put.caller (pair.put.number + 1);
  takes = slice_set s.takes pair.take.caller (pair.take.number + 1);
  put_moment = pair.put_moment;
  take_moment = pair.take_moment;
}
after s (FindNothing m) = record s { found = m; put_moment = m; take_moment = m }

-- A standing is whole: it covers all answered takes, and each answered put that it doesn't cover
-- may still take effect.
pub record IsWhole (reading : Reading) (book : List Page) (s : Paired) : Type 0 where
  pub taken : (t : Call) (v : ℕ) → deal_of reading book t ≡ deals.Took v
      → t.number < slice_index s.takes t.caller
  pub found : (e : Call) → deal_of reading book e ≡ deals.FoundNothing → IsHeldBy book e s.found
  pub kept : (p : Call) (r : Record) → IsPut reading book p → record_of book p ≡ Some r
      → slice_index s.puts p.caller ≤ p.number
      → s.put_moment ≤ moment_of r

-- The steps lead from a standing, one after another, to one that is whole.
abbrev pub AreSteps : Reading → List Page → Paired → List PairStep → Type 0
AreSteps reading book s [] = IsWhole reading book s
AreSteps reading book s (step ∷ steps) = MayStep reading book s step
    × AreSteps reading book (after s step) steps

-- The standing of this many callers that covers no call.
abbrev pub none_paired : ℕ → Paired
none_paired callers = record {
  puts = replicate callers 0;
  takes = replicate callers 0;
  found = 0;
  put_moment = 0;
  take_moment = 0;
}

-- A queue's book has pairs: some steps lead from the standing that covers no call to one that is
-- whole.
abbrev pub HasPairs : Reading → List Page → Type 0
HasPairs reading book = (steps : List PairStep)
    × AreSteps reading book (none_paired (length book)) steps
