-- Laws of searches.
use Rattle.std.specs.Prelude.{◌≡◌, ℕ, ◌+◌, ◌≤◌, List, [], ◌∷◌, length, Contains, Option, Some, None, IfSome}
use Rattle.book_base.specs.Book.{Page}
use Rattle.told_models.specs.declared.table.Transition.{Transition}
use Rattle.told_models.specs.declared.answer.Answer.{Answer}
use Rattle.told_models.specs.declared.answer.Answer.TheVariants.{Legal, Illegal, Ask}
use Rattle.told_models.specs.Table.{Table, told_step, Extends}
use Rattle.told_models.specs.Closed.{IsWordOf, number_of_calls}
use Rattle.told_models.specs.Dialogue.{word_lists}
use Rattle.told_models.specs.Answers.{IsRightAnswer}
use Rattle.told_models.specs.declared.told_search.ToldSearch.{ToldSearch}
use Rattle.told_models.specs.Searching.{IsSearch}
use Rattle.told_models.specs.Weighing.{weight_of, HasGoneOn}

-- A search goes on where more was told: what it found out stays right.
abbrev pub SearchesStay : Type 0
SearchesStay = (old new : Table) (book : List Page) (search : ToldSearch) → Extends old new
    → IsSearch old book search → IsSearch new book search

-- A round of a dialogue with a search: by what was told the search goes on by some steps, says
-- something or finds no answer, and is where it is then.
pub record Round : Type 0 where
  pub table : Table
  pub steps : ℕ
  pub said : Option Answer
  pub search : ToldSearch

-- After what a search said, its dialogue goes on by a table: the step for which it asked is told
-- there, and a verdict ends the dialogue.
abbrev pub GoesOnBy : Option Answer → Table → Type 0
GoesOnBy None table = Unit {0}
GoesOnBy (Some (Legal order)) table = ⊥
GoesOnBy (Some Illegal) table = ⊥
GoesOnBy (Some (Ask state op)) table =
    (transition : Transition) × (told_step table state op ≡ Some transition)

-- The rounds of a dialogue with a search of a book, after what was told and said before. In each
-- round no less is told than before, the step for which the search asked is told, and at least one
-- step may be made.
abbrev pub AreRounds : List Page → Table → Option Answer → ToldSearch → List Round → Type 0
AreRounds book table said search [] = Unit {0}
AreRounds book table said search (round ∷ later) = Extends table round.table
    × GoesOnBy said round.table × (1 ≤ round.steps)
    × HasGoneOn book round.steps search round.said round.search
    × IfSome round.said (IsRightAnswer round.table book)
    × AreRounds book round.table round.said round.search later

-- A dialogue with a search ends: it has at most one round more than the search had left to try and
-- than there are lists of at least one and at most as many operation words as the book has calls,
-- together, whatever is told.
abbrev pub SearchDialoguesEnd : Type 0
SearchDialoguesEnd = (book : List Page) (ops : List ℕ) (table : Table) (search : ToldSearch)
    (rounds : List Round) → ((op : ℕ) → IsWordOf book op → Contains ops op)
    → AreRounds book table None search rounds
    → length rounds ≤ weight_of book search + word_lists (length ops) (number_of_calls book) + 1
