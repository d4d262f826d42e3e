-- What a verdict says of the book of a model's text, by the steps in the text.
use Rattle.std.specs.Prelude.{ℕ, List}
use Rattle.book_base.specs.SeqSpec.{SeqSpec}
use Rattle.book_base.specs.Book.{Page}
use Rattle.book_base.specs.Order.{HasLegalOrder}
use Rattle.told_models.specs.Agreement.{Agrees}
use Rattle.told_models.specs.Closed.{IsWordOf, number_of_calls}
use Rattle.told_models.specs.Dialogue.{IsAsk}
use Rattle.model_text.specs.declared.told_line.ToldLine.{ToldLine}
use Rattle.model_text.specs.ModelRules.{IsModelText}
use Rattle.model_text.specs.Told.{told_table}
use Rattle.model_judge.specs.declared.judging.ModelVerdict.{ModelVerdict}
use Rattle.model_judge.specs.declared.judging.ModelVerdict.TheVariants.{Legal, Illegal, Open}

-- A verdict is right for a book and told lines: with `Legal` each object that agrees with the table
-- of these lines has a legal order of the book, with `Illegal` no such object has one, and `Open`
-- names a state and an operation of the book whose step isn't told, where fewer told steps of the
-- book's operations lead to the state than the book has calls.
abbrev pub IsRightFor : List Page → List ToldLine → ModelVerdict → Type 0
IsRightFor pages told Legal =
    (spec : SeqSpec) → Agrees (told_table told) spec → HasLegalOrder spec pages
IsRightFor pages told Illegal =
    (spec : SeqSpec) → Agrees (told_table told) spec → HasLegalOrder spec pages → ⊥
IsRightFor pages told (Open state op) =
    IsAsk (told_table told) (IsWordOf pages) (number_of_calls pages) state op

-- Some object agrees with the table of told lines.
abbrev pub SomeAgrees : List ToldLine → Type 0
SomeAgrees told = (spec : SeqSpec) × Agrees (told_table told) spec

-- The bytes are the text of a book and told lines, for which the verdict is right; and some object
-- agrees with the table of these lines, so that `Legal` and `Illegal` exclude each other.
unfoldable pub IsModelVerdict : List ℕ → ModelVerdict → Type 0
IsModelVerdict bytes verdict = (pages : List Page) × (told : List ToldLine)
    × IsModelText bytes pages told × SomeAgrees told × IsRightFor pages told verdict
