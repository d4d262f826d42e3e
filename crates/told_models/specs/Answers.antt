-- What an answer on a book claims, at a table of what was told.
use Rattle.std.specs.Prelude.{List}
use Rattle.book_base.specs.SeqSpec.{SeqSpec}
use Rattle.book_base.specs.Book.{Page}
use Rattle.book_base.specs.Order.{IsLegalOrder, HasLegalOrder}
use Rattle.told_models.specs.declared.answer.Answer.{Answer}
use Rattle.told_models.specs.declared.answer.Answer.TheVariants.{Legal, Illegal, Ask}
use Rattle.told_models.specs.Table.{Table}
use Rattle.told_models.specs.Agreement.{Agrees}
use Rattle.told_models.specs.Closed.{IsWordOf, number_of_calls}
use Rattle.told_models.specs.Dialogue.{IsAsk}

-- An answer on a book is right: the order of `Legal` is legal for each object that agrees with the
-- table, with `Illegal` no object that agrees has a legal order, and `Ask` names a pair of a state
-- and an operation word of the book whose step wasn't told, where fewer told steps of the book's
-- words lead to the state than the book has calls.
abbrev pub IsRightAnswer : Table → List Page → Answer → Type 0
IsRightAnswer table book (Legal order) =
    (spec : SeqSpec) → Agrees table spec → IsLegalOrder spec book order.items
IsRightAnswer table book Illegal =
    (spec : SeqSpec) → Agrees table spec → HasLegalOrder spec book → ⊥
IsRightAnswer table book (Ask state op) =
    IsAsk table (IsWordOf book) (number_of_calls book) state op
