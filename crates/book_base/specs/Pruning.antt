-- Views with at most one unanswered call of a caller, forced callers and dead ends.
use Rattle.std.specs.Prelude.{◌≡◌, ℕ, ◌+◌, ◌<◌, ◌≤◌, List, ◌∷◌, ◌++◌, length, slice_index, Some}
use Rattle.book_base.specs.declared.call.Call.{Call}
use Rattle.book_base.specs.declared.call.Place.{Place}
use Rattle.book_base.specs.declared.call.Record.{Record}
use Rattle.book_base.specs.SeqSpec.{SeqSpec}
use Rattle.book_base.specs.Cut.{IsWithin}
use Rattle.book_base.specs.Book.{Page, answers_of, IsAnswered, record_of}
use Rattle.book_base.specs.Order.{IsLegalOrder}
use Rattle.book_base.specs.Next.{next_call, MayStandNext, Continues}
use Rattle.book_base.specs.Reaching.{Reaches}

-- A book has one open: each of its views holds at most one unanswered call of each caller.
abbrev pub HasOneOpen : List Page → Type 0
HasOneOpen book = (call : Call) (r : Record) (i : ℕ) → record_of book call ≡ Some r
    → slice_index r.view i ≤ answers_of book i + 1

-- where two calls are answered, the view of the first is within that of the second
abbrev pub ViewsAreWithin : List Page → Call → Call → Type 0
ViewsAreWithin book a b = (r s : Record) → record_of book a ≡ Some r → record_of book b ≡ Some s
    → IsWithin r.view s.view

-- A caller's first call outside a cut is answered, and its view is within the view of each answered
-- call that is the first one outside the cut of some caller below the number `below`.
pub record IsLeast (book : List Page) (cut : List ℕ) (below caller : ℕ) : Type 0 where
  pub answered : IsAnswered book (next_call cut caller)
  pub least : (other : ℕ) → other < below
      → ViewsAreWithin book (next_call cut caller) (next_call cut other)

-- A caller is forced after a cut: its first call outside the cut is answered, and has the least
-- view of all answered calls outside the cut.
abbrev pub IsForced : List Page → List ℕ → ℕ → Type 0
IsForced book cut caller = IsLeast book cut (length book) caller

-- A cut and a list of the object are a dead end: no places continue an order from there.
abbrev pub IsDeadEnd : List Page → (List ℕ → ℕ → List ℕ × ℕ) → List ℕ → List ℕ → Type 0
IsDeadEnd book next cut list = (rest : List Place) → Continues book next cut list rest → ⊥

-- A place may be taken at once, after a cut and at a list: it may come next, and where any places
-- continue an order from the cut and the list, some places that begin with this one do too.
pub record StandsAtOnce (book : List Page) (next : List ℕ → ℕ → List ℕ × ℕ) (cut list : List ℕ)
    (place : Place) : Type 0 where
  pub may_stand : MayStandNext book next cut list place
  pub goes_on : (rest : List Place) → Continues book next cut list rest → (other : List Place)
      × Continues book next cut list (place ∷ other)

-- Some order reaches a cut and a list, and whatever places continue it from there make a legal
-- order with it.
pub record IsReached (spec : SeqSpec) (book : List Page) (cut list : List ℕ) : Type 0 where
  pub before : List Place
  pub reaches : Reaches spec book before cut list
  pub legal : (rest : List Place) → Continues book spec.next cut list rest
      → IsLegalOrder spec book (before ++ rest)
