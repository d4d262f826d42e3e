-- Closed lists of standings: whatever may come next at one of them leads to one of them, or needn't
-- be tried.
use Rattle.std.specs.Prelude.{◌≡◌, ℕ, ◌<◌, ◌≤◌, ◌⊎◌, List, length, Some, slice_get, slice_index}
use Rattle.book_base.specs.declared.call.Call.{Call}
use Rattle.book_base.specs.declared.call.Record.{Record}
use Rattle.book_base.specs.Book.{Page, answers_of, record_of}
use Rattle.legal_orders.specs.Container.{Reading}
use Rattle.legal_orders.specs.Deals as deals
use Rattle.legal_orders.specs.Deals.{deal_of}
use Rattle.queue_pairs.specs.Moments.{moment_of, IsHeldBy}
use Rattle.queue_pairs.specs.Pairs.{Paired, Pair, PairStep, Pairs, FindNothing, IsPutOf, IsPut, IsTake, IsNext, MayPair, MayFind, MayStep, after, IsWhole}
use Rattle.queue_pairs.specs.Serving.{IsDueNoLater}

-- a standing is one of a list
abbrev pub IsOnePaired : List Paired → Paired → Type 0
IsOnePaired standings s = (k : ℕ) × (slice_get standings k ≡ Some s)

-- Some answered put that the standing doesn't cover is due before the moment `m`: its own view
-- counts fewer than `m` calls.
abbrev pub HasPutBefore : Reading → List Page → Paired → ℕ → Type 0
HasPutBefore reading book s m = (p : Call) × (r : Record) × IsPut reading book p
    × (record_of book p ≡ Some r) × (slice_index s.puts p.caller ≤ p.number) × (moment_of r < m)

-- Some answered take of a value that the standing doesn't cover is due before the moment `m`: its
-- own view counts fewer than `m` calls.
abbrev pub HasTakeBefore : Reading → List Page → Paired → ℕ → Type 0
HasTakeBefore reading book s m = (t : Call) × (v : ℕ) × (r : Record)
    × (deal_of reading book t ≡ deals.Took v) × (record_of book t ≡ Some r)
    × (slice_index s.takes t.caller ≤ t.number) × (moment_of r < m)

-- Some answered take that finds nothing and that the standing doesn't cover is due before the
-- moment `m`: its own view counts fewer than `m` calls.
abbrev pub HasFindBefore : Reading → List Page → Paired → ℕ → Type 0
HasFindBefore reading book s m = (e : Call) × (r : Record)
    × (deal_of reading book e ≡ deals.FoundNothing) × (record_of book e ≡ Some r)
    × (IsHeldBy book e s.found → ⊥) × (moment_of r < m)

-- Some call that the standing doesn't cover is too late for a step: an answered put whose own view
-- has a moment before `put_moment`, or an answered take, of a value or of nothing, whose own view
-- has a moment before `take_moment`.
abbrev pub IsOverdue : Reading → List Page → Paired → ℕ → ℕ → Type 0
IsOverdue reading book s put_moment take_moment = HasPutBefore reading book s put_moment
    ⊎ HasTakeBefore reading book s take_moment ⊎ HasFindBefore reading book s take_moment

-- The pair `other` serves for `pair` at a standing. Its put and its take are the next ones of their
-- callers, and put in and take out the same value as those of `pair`, or both takes are unanswered.
-- They may take effect at their moments, which are no later than those of `pair`, and they are due
-- no later.
pub record PairServesFor (reading : Reading) (book : List Page) (s : Paired) (other pair : Pair)
    : Type 0 where
  pub puts : (v : ℕ) → IsPutOf reading book v pair.put → IsPutOf reading book v other.put
  pub takes : deal_of reading book other.take ≡ deal_of reading book pair.take
  pub put : IsNext (IsPut reading book) s.puts other.put
  pub take : IsNext (IsTake reading book) s.takes other.take
  pub after_puts : s.put_moment ≤ other.put_moment
  pub after_takes : s.take_moment ≤ other.take_moment
  pub in_turn : other.put_moment ≤ other.take_moment
  pub put_held : IsHeldBy book other.put other.put_moment
  pub take_held : IsHeldBy book other.take other.take_moment
  pub put_moment : other.put_moment ≤ pair.put_moment
  pub take_moment : other.take_moment ≤ pair.take_moment
  pub put_due : IsDueNoLater book other.put pair.put
  pub take_due : IsDueNoLater book other.take pair.take

-- neither call of a pair is answered
pub record IsUnanswered (book : List Page) (pair : Pair) : Type 0 where
  pub put : answers_of book pair.put.caller ≤ pair.put.number
  pub take : answers_of book pair.take.caller ≤ pair.take.number

-- A pair that may come next at the standing `s` needs no more search: neither of its calls is
-- answered; or some pair that serves for it leads from `s` to one of `standings`, or leaves a call
-- overdue.
abbrev pub PairLeads : Reading → List Page → List Paired → Paired → Pair → Type 0
PairLeads reading book standings s pair =
    ((other : Pair) × PairServesFor reading book s other pair
    × (IsOnePaired standings (after s (Pairs other))
    ⊎ IsOverdue reading book s other.put_moment other.take_moment))
    ⊎ IsUnanswered book pair

-- a standing covers each take that finds nothing and that is held by some view whose moment is `m`
-- or earlier
abbrev pub NoneFindAt : Reading → List Page → Paired → ℕ → Type 0
NoneFindAt reading book s m = (e : Call) → deal_of reading book e ≡ deals.FoundNothing
    → IsHeldBy book e m → IsHeldBy book e s.found

-- The takes that find nothing need no more search at the standing `s`, up to the moment `m`. Either
-- `s` covers each of them that a view of a moment up to `m` holds. Or there is a moment `g`, above
-- `s.found` and at most `m`, for which the step that covers them up to `g` leads from `s` to one of
-- `standings`, or leaves a call overdue.
abbrev pub FindsLead : Reading → List Page → List Paired → Paired → ℕ → Type 0
FindsLead reading book standings s m =
    NoneFindAt reading book s m
    ⊎ ((g : ℕ) × (s.found < g) × (g ≤ m)
    × (IsOnePaired standings (after s (FindNothing g)) ⊎ IsOverdue reading book s g g))

-- Whatever may come next at a standing leads to one of the given standings or needn't be tried; the
-- standing isn't whole, and its last put has no later moment than its last take.
pub record AllLead (reading : Reading) (book : List Page) (standings : List Paired)
    (s : Paired) : Type 0 where
  pub in_turn : s.put_moment ≤ s.take_moment
  pub unfinished : IsWhole reading book s → ⊥
  pub pairs : (pair : Pair) → MayPair reading book s pair → PairLeads reading book standings s pair
  pub finds : (m : ℕ) → MayFind reading book s m → FindsLead reading book standings s m

-- At a standing, all takes that find nothing may be covered at once up to the moment of its last
-- take, and no other call is delayed by that. The standing covers them up to an earlier moment, it
-- leaves no put uncovered that is due before that moment, and the step that covers them leads to
-- one of `standings`.
pub record FindsStandAtOnce (reading : Reading) (book : List Page) (standings : List Paired)
    (s : Paired) : Type 0 where
  pub more : s.found < s.take_moment
  pub in_time : HasPutBefore reading book s s.take_moment → ⊥
  pub leads : IsOnePaired standings (after s (FindNothing s.take_moment))

-- A standing has a count of puts and one of takes for each caller of the book. Either it isn't
-- whole, its last put has no later moment than its last take, and whatever may come next there
-- leads to one of `standings` or needn't be tried; or its takes that find nothing may be covered at
-- once, and that leads to one of `standings`.
pub record IsClosedAt (reading : Reading) (book : List Page) (standings : List Paired)
    (s : Paired) : Type 0 where
  pub wide_puts : length book ≤ length s.puts
  pub wide_takes : length book ≤ length s.takes
  pub leads : AllLead reading book standings s ⊎ FindsStandAtOnce reading book standings s

-- Standings are closed: each of them leads to standings of the list alone.
abbrev pub AreClosed : Reading → List Page → List Paired → Type 0
AreClosed reading book standings = (s : Paired) → IsOnePaired standings s
    → IsClosedAt reading book standings s

-- A standing has a count of puts and one of takes for each caller of the book. It isn't whole, its
-- last put has no later moment than its last take, and each step that may come next there leads to
-- one of `standings`.
pub record HasSuccessors (reading : Reading) (book : List Page) (standings : List Paired)
    (s : Paired) : Type 0 where
  pub wide_puts : length book ≤ length s.puts
  pub wide_takes : length book ≤ length s.takes
  pub in_turn : s.put_moment ≤ s.take_moment
  pub unfinished : IsWhole reading book s → ⊥
  pub successors : (step : PairStep) → MayStep reading book s step
      → IsOnePaired standings (after s step)
