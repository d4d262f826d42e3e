-- Laws of tables and of the objects that agree with them.
use Rattle.std.specs.Prelude.{ℕ, ◌≤◌, List, Contains, Vec}
use Rattle.std.specs.declared.alloc.Global.{Global}
use Rattle.book_base.specs.declared.call.Place.{Place}
use Rattle.book_base.specs.SeqSpec.{SeqSpec}
use Rattle.book_base.specs.Book.{Page}
use Rattle.book_base.specs.Order.{IsLegalOrder}
use Rattle.told_models.specs.declared.answer.Answer.TheVariants.{Legal, Illegal}
use Rattle.told_models.specs.Table.{Table, KeepsPromises, Extends}
use Rattle.told_models.specs.Agreement.{Agrees}
use Rattle.told_models.specs.Completion.{completion}
use Rattle.told_models.specs.Closed.{IsClosedTo, IsWordOf, number_of_calls}
use Rattle.told_models.specs.Answers.{IsRightAnswer}

-- The completion of a table whose steps keep its promises agrees with the table, so that some
-- object does.
abbrev pub CompletionsAgree : Type 0
CompletionsAgree = (table : Table) → KeepsPromises table → Agrees table (completion table)

-- An object that agrees with a table agrees with each table that it extends.
abbrev pub AgreesWithFewer : Type 0
AgreesWithFewer = (old new : Table) (spec : SeqSpec) → Extends old new → Agrees new spec
    → Agrees old spec

-- Where a table is closed under the operation words of a book, to the number of the book's calls,
-- an order of the book that is legal for one object that agrees with the table is legal for each of
-- them.
abbrev pub ClosedTablesDecide : Type 0
ClosedTablesDecide = (table : Table) (book : List Page) (order : List Place) (a b : SeqSpec)
    → IsClosedTo table (IsWordOf book) (number_of_calls book) → Agrees table a → Agrees table b
    → IsLegalOrder a book order → IsLegalOrder b book order

-- A table that is closed to a depth under some operation words is closed for each book that has no
-- other words and no more calls.
abbrev pub ClosedForBooks : Type 0
ClosedForBooks = (table : Table) (ops : List ℕ) (most : ℕ) (book : List Page)
    → ((op : ℕ) → IsWordOf book op → Contains ops op) → number_of_calls book ≤ most
    → IsClosedTo table (Contains ops) most
    → IsClosedTo table (IsWordOf book) (number_of_calls book)

-- The answers `Legal` and `Illegal` on a book exclude one another, where the steps of the table
-- keep its promises.
abbrev pub AnswersExclude : Type 0
AnswersExclude = (table : Table) (book : List Page) (order : Vec Place Global)
    → KeepsPromises table → IsRightAnswer table book (Legal order)
    → IsRightAnswer table book Illegal → ⊥

-- A verdict stays right where more was told.
abbrev pub VerdictsStand : Type 0
VerdictsStand = (old new : Table) (book : List Page) → Extends old new
    → ((order : Vec Place Global) → IsRightAnswer old book (Legal order)
    → IsRightAnswer new book (Legal order))
    × (IsRightAnswer old book Illegal → IsRightAnswer new book Illegal)
