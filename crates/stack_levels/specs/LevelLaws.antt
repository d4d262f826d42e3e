-- The law that a stack's book has no legal order where a table of levels is closed for it.
use Rattle.std.specs.Prelude.{ℕ, List, []}
use Rattle.book_base.specs.SeqSpec.{spec_from}
use Rattle.book_base.specs.Book.{Page, IsValid}
use Rattle.book_base.specs.Order.{HasLegalOrder}
use Rattle.book_base.specs.Pruning.{HasOneOpen}
use Rattle.legal_orders.specs.Container.{Reading}
use Rattle.list_pruning.specs.LastFirst.{GivesLastFirst}
use Rattle.stack_levels.specs.Levels.{Layer, IsAmong, IsClosed}

-- The book has no legal order of any object that is read as `reading` says, gives its last value
-- first, and begins with the empty list.
abbrev pub StackHasNoOrder : Reading → List Page → Type 0
StackHasNoOrder reading book = (next : List ℕ → ℕ → List ℕ × ℕ) (bound : ℕ)
    → GivesLastFirst reading next bound
    → HasLegalOrder (spec_from [] next) book → ⊥

-- Where a table of levels is closed for a valid book, and each view of the book holds at most one
-- unanswered call of each caller, no object that gives its last value first and begins with the
-- empty list has a legal order of the book.
abbrev pub ClosedTablesHaveNoOrder : Type 0
ClosedTablesHaveNoOrder =
    (reading : Reading) (book : List Page) (layers : List Layer) (pairs : List (ℕ × List ℕ))
    → IsValid book → HasOneOpen book → IsClosed reading book layers (IsAmong pairs)
    → StackHasNoOrder reading book
