-- Idle calls: unanswered calls that don't change the object's present list.
use Rattle.std.specs.Prelude.{◌≡◌, ℕ, ◌≤◌, List, ◌∷◌, length}
use Rattle.book_base.specs.declared.call.Place.{Place}
use Rattle.book_base.specs.Book.{Page, IsAnswered}
use Rattle.book_base.specs.Order.{call_at}
use Rattle.book_base.specs.Next.{list_after, Continues}
use Rattle.book_base.specs.Pruning.{HasOneOpen}

-- In a book with one open, where the places that continue an order begin with an unanswered call
-- that doesn't change the list, fewer places continue the order too.
abbrev pub IdleMayBeLeftOut : Type 0
IdleMayBeLeftOut = (book : List Page) (next : List ℕ → ℕ → List ℕ × ℕ) (cut list : List ℕ)
    (place : Place) (rest : List Place)
    → length book ≤ length cut → HasOneOpen book → (IsAnswered book (call_at place) → ⊥)
    → list_after book next list place ≡ list
    → Continues book next cut list (place ∷ rest) → (other : List Place)
    × Continues book next cut list other × (length other ≤ length rest)
