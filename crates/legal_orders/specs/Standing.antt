-- Answered read-only calls, which an order may take at once.
use Rattle.std.specs.Prelude.{◌≡◌, ℕ, ◌≤◌, List, ◌∷◌, length, unwrap_or, Some}
use Rattle.book_base.specs.declared.call.Call.{Call}
use Rattle.book_base.specs.declared.call.Place.{Place}
use Rattle.book_base.specs.declared.call.Record.{Record}
use Rattle.book_base.specs.Book.{Page, operation_of, record_of}
use Rattle.book_base.specs.Next.{MayComeNext, Continues}
use Rattle.book_base.specs.Reaching.{Leaves}

-- the place of an answered call, with its recorded reply
abbrev pub answered_place : Call → Record → Place
answered_place call r = record { caller = call.caller; number = call.number; reply = r.reply }

-- the operation word of a call, 0 where the book lacks the call
abbrev pub word_of : List Page → Call → ℕ
word_of book call = unwrap_or (operation_of book call) 0

-- An order may take an answered call at once after the calls of a cut and at a list: the call may
-- come next, the object gives its recorded reply, and with this reply its operation is read-only.
pub record MayStandAtOnce (book : List Page) (next : List ℕ → ℕ → List ℕ × ℕ) (cut list : List ℕ)
    (call : Call) (r : Record) : Type 0 where
  pub may_come : MayComeNext book cut call
  pub known : record_of book call ≡ Some r
  pub gives : (next list (word_of book call)).1 ≡ r.reply
  pub leaves : Leaves next (word_of book call) r.reply

-- Where places continue an order from a cut and a list, and an answered call may be taken at once
-- there, some places that begin with this call continue an order from there too.
abbrev pub GoesOnWithIt : Type 0
GoesOnWithIt = (book : List Page) (next : List ℕ → ℕ → List ℕ × ℕ) (cut list : List ℕ) (call : Call)
    (r : Record) (rest : List Place) → length book ≤ length cut
    → MayStandAtOnce book next cut list call r → Continues book next cut list rest
    → (other : List Place) × Continues book next cut list (answered_place call r ∷ other)
