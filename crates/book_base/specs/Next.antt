-- How a legal order is built, one call after another.
use Rattle.std.specs.Prelude.{◌≡◌, ℕ, ◌+◌, List, [], ◌∷◌, Some, slice_index, slice_set}
use Rattle.book_base.specs.declared.call.Call.{Call}
use Rattle.book_base.specs.declared.call.Record.{Record}
use Rattle.book_base.specs.declared.call.Place.{Place}
use Rattle.book_base.specs.Cut.{Holds}
use Rattle.book_base.specs.Book.{Page, IsCall, IsAnswered, record_of, Precedes}
use Rattle.book_base.specs.Order.{call_at, step_at}

-- the cut that holds one more call of a caller
abbrev pub raised : List ℕ → ℕ → List ℕ
raised cut i = slice_set cut i (slice_index cut i + 1)

-- the next call of a caller after the calls of a cut
abbrev pub next_call : List ℕ → ℕ → Call
next_call cut i = record { caller = i; number = slice_index cut i }

-- a cut holds all answered calls of a book
abbrev pub HoldsAnswered : List Page → List ℕ → Type 0
HoldsAnswered book cut = (call : Call) → IsAnswered book call → Holds cut call

-- A call of the book may come next after the calls of a cut where it is the next one of its caller,
-- and each call that precedes it is in the cut.
pub record MayComeNext (book : List Page) (cut : List ℕ) (call : Call) : Type 0 where
  pub is_call : IsCall book call
  pub next : call.number ≡ slice_index cut call.caller
  pub preceded : (a : Call) → Precedes book a call → Holds cut a

-- A place may come next in an order, after the calls of a cut and at a list of the object: its call
-- may come next, its reply is the one that the object gives, and also the recorded one where the
-- call is answered.
pub record MayStandNext (book : List Page) (next : List ℕ → ℕ → List ℕ × ℕ) (cut list : List ℕ)
    (place : Place) : Type 0 where
  pub may_come : MayComeNext book cut (call_at place)
  pub recorded : (r : Record) → record_of book (call_at place) ≡ Some r → r.reply ≡ place.reply
  pub reply : (next list (step_at book place).0).1 ≡ place.reply

-- the object's list after the operation of a place
abbrev pub list_after : List Page → (List ℕ → ℕ → List ℕ × ℕ) → List ℕ → Place → List ℕ
list_after book next list place = (next list (step_at book place).0).0

-- The places continue an order from a cut and a list of the object on: each may come next after
-- those before it, and in the end the cut holds all answered calls.
abbrev pub Continues : List Page → (List ℕ → ℕ → List ℕ × ℕ) → List ℕ → List ℕ → List Place → Type 0
Continues book next cut list [] = HoldsAnswered book cut
Continues book next cut list (place ∷ rest) =
    MayStandNext book next cut list place
    × Continues book next (raised cut place.caller) (list_after book next list place) rest
