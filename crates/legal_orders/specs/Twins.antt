-- Twins: two calls of one operation that may come next, of which one may be tried instead of the
-- other.
use Rattle.std.specs.Prelude.{◌≡◌, ◌≢◌, ℕ, ◌≤◌, ◌⊎◌, List, ◌∷◌, length, Some, unwrap_or}
use Rattle.book_base.specs.declared.call.Call.{Call}
use Rattle.book_base.specs.declared.call.Place.{Place}
use Rattle.book_base.specs.declared.call.Record.{Record}
use Rattle.book_base.specs.Book.{Page, IsAnswered, IsValid, operation_of, record_of}
use Rattle.book_base.specs.Order.{call_at}
use Rattle.book_base.specs.Next.{MayComeNext, Continues}
use Rattle.book_base.specs.Pruning.{HasOneOpen, ViewsAreWithin}

-- An answered call a does what a call b does: b has the same reply and a view that contains a's, or
-- b is unanswered and the object gives a's reply to a's operation at the list.
abbrev pub DoesTheSame : List Page → (List ℕ → ℕ → List ℕ × ℕ) → List ℕ → Call → Record
    → Call → Type 0
DoesTheSame book next list a r b =
    ((s : Record) × (record_of book b ≡ Some s) × (s.reply ≡ r.reply) × ViewsAreWithin book a b)
    ⊎ ((IsAnswered book b → ⊥) × ((next list (unwrap_or (operation_of book a) 0)).1 ≡ r.reply))

-- A call a is a twin that serves for a call b, after a cut and at a list: both may come next, they
-- are of two callers and have one operation word, and a is answered and does what b does, or
-- neither is answered.
pub record IsTwin (book : List Page) (next : List ℕ → ℕ → List ℕ × ℕ) (cut list : List ℕ)
    (a b : Call) : Type 0 where
  pub apart : a.caller ≢ b.caller
  pub first : MayComeNext book cut a
  pub second : MayComeNext book cut b
  pub same : operation_of book a ≡ operation_of book b
  pub serves : ((r : Record) × (record_of book a ≡ Some r) × DoesTheSame book next list a r b)
      ⊎ ((IsAnswered book a → ⊥) × (IsAnswered book b → ⊥))

-- In a valid book with one open, where places continue an order and a twin serves for the first
-- call, as many or fewer places that begin with the twin continue it too.
abbrev pub TwinServes : Type 0
TwinServes = (book : List Page) (next : List ℕ → ℕ → List ℕ × ℕ) (cut list : List ℕ) (a : Call)
    (place : Place) (rest : List Place)
    → length book ≤ length cut → IsValid book → HasOneOpen book
    → IsTwin book next cut list a (call_at place) → Continues book next cut list (place ∷ rest)
    → (other : List Place) × Continues book next cut list
    (record { caller = a.caller; number = a.number; reply = place.reply } ∷ other)
    × (length other ≤ length rest)
