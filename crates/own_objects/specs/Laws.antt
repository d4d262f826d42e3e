-- Laws of objects over states of any type.
use Rattle.std.specs.Prelude.{ℕ, ◌↔◌, List, Vec}
use Rattle.std.specs.declared.alloc.Global.{Global}
use Rattle.book_base.specs.declared.call.Place.{Place}
use Rattle.book_base.specs.SeqSpec.{SeqSpec}
use Rattle.book_base.specs.Book.{Page}
use Rattle.book_base.specs.Sequential.{IsLegalRun}
use Rattle.book_base.specs.Order.{IsLegalOrder, HasLegalOrder}
use Rattle.told_models.specs.declared.answer.Answer.TheVariants.{Legal, Illegal}
use Rattle.told_models.specs.Table.{Table, KeepsPromises}
use Rattle.told_models.specs.Answers.{IsRightAnswer}
use Rattle.own_objects.specs.Objects.{object_of, IsOwnRunFrom}
use Rattle.own_objects.specs.Told.{IsTrueOf}

-- The runs of an object over states of a type are those of its transition function, from its
-- initial state on.
abbrev pub RunsAreItsOwn : Type 0 → Type 0
RunsAreItsOwn S = (init : S) (next : S → ℕ → S × ℕ) (steps : List (ℕ × ℕ))
    → IsLegalRun (object_of init next) steps ↔ IsOwnRunFrom next init steps

-- A sequential object over lists of words has the same legal orders of a book, taken as an object
-- over states of the type of these lists.
abbrev pub ListsMakeNoDifference : Type 0
ListsMakeNoDifference = (spec : SeqSpec) (book : List Page) (order : List Place)
    → IsLegalOrder (object_of spec.init spec.next) book order ↔ IsLegalOrder spec book order

-- At a table that is true of an object a right answer on a book holds of this object: the order of
-- `Legal` is legal for it, and with `Illegal` it has no legal order.
abbrev pub AnswersHoldOfIt : Type 0 → Type 0
AnswersHoldOfIt S = (init : S) (next : S → ℕ → S × ℕ) (state_of : ℕ → S) (table : Table)
    (book : List Page) → KeepsPromises table → IsTrueOf init next state_of table
    → ((order : Vec Place Global) → IsRightAnswer table book (Legal order)
    → IsLegalOrder (object_of init next) book order.items)
    × (IsRightAnswer table book Illegal → HasLegalOrder (object_of init next) book → ⊥)
