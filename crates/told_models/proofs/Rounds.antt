-- Dialogues with a search end.
use Rattle.std.proofs.Common.{◌≡◌, ℕ, ◌+◌, ◌≤◌, List, [], ◌∷◌, length, Contains, Option, Some, None, IfSome, refl, arith}
use Rattle.book_base.specs.Book.{Page}
use Rattle.told_models.specs.declared.answer.Answer.{Answer}
use Rattle.told_models.specs.declared.answer.Answer.TheVariants.{Legal, Illegal, Ask}
use Rattle.told_models.specs.declared.table.Transition.{Transition}
use Rattle.told_models.specs.Table.{Table, told_step, Extends}
use Rattle.told_models.specs.Closed.{IsWordOf, number_of_calls}
use Rattle.told_models.specs.Answers.{IsRightAnswer}
use Rattle.told_models.proofs.Ending.{left_to_tell, left_to_tell-bounded, left_to_tell-falls, left_to_tell-less}
use Rattle.told_models.specs.declared.told_search.ToldSearch.{ToldSearch}
use Rattle.told_models.specs.Weighing.{weight_of, HasGoneOn}
use Rattle.told_models.specs.SearchLaws.{Round, GoesOnBy, AreRounds, SearchDialoguesEnd}

module _ (book : List Page) (ops : List ℕ)
    (among : (op : ℕ) → IsWordOf book op → Contains ops op) where
  -- how much is left to tell of the book's object
  abbrev left : Table → ℕ
  left table = left_to_tell ops (number_of_calls book) table

  -- After what was said at a table, so many rounds follow at the most: as many as the search has
  -- left to try, and as there is left to tell.
  abbrev IsFew : Table → Option Answer → ToldSearch → ℕ → Type 0
  IsFew table None search rounds = rounds ≤ weight_of book search + left table + 1
  IsFew table (Some (Legal order)) search rounds = rounds ≤ 0
  IsFew table (Some Illegal) search rounds = rounds ≤ 0
  IsFew table (Some (Ask state op)) search rounds = rounds ≤ weight_of book search + left table

  -- a further round is one more than the rounds after it
  one_more : (table : Table) (search : ToldSearch) (round : Round) (answer : Option Answer)
      (later : ℕ) → Extends table round.table → 1 ≤ round.steps
      → HasGoneOn book round.steps search answer round.search
      → IsFew round.table answer round.search later
      → later + 1 ≤ weight_of book search + left table + 1
  one_more table search round None later extends some gone few = omega (
    arith,
    few,
    gone,
    some,
    left_to_tell-falls ops (number_of_calls book) table round.table extends,
  )
  one_more table search round (Some (Legal order)) later extends some gone few =
      omega (arith, few)
  one_more table search round (Some Illegal) later extends some gone few = omega (arith, few)
  one_more table search round (Some (Ask state op)) later extends some gone few = omega (
    arith,
    few,
    gone,
    left_to_tell-falls ops (number_of_calls book) table round.table extends,
  )

  -- the rounds after an answer are few
  few_rounds : (table : Table) (said : Option Answer) (search : ToldSearch)
      (rounds : List Round) → IfSome said (IsRightAnswer table book)
      → AreRounds book table said search rounds → IsFew table said search (length rounds)
  few_rounds table None search [] right are = omega arith
  few_rounds table (Some (Legal order)) search [] right are = omega arith
  few_rounds table (Some Illegal) search [] right are = omega arith
  few_rounds table (Some (Ask state op)) search [] right are = omega arith
  few_rounds table (Some (Legal order)) search (round ∷ later) right are = absurd are.1
  few_rounds table (Some Illegal) search (round ∷ later) right are = absurd are.1
  few_rounds table None search (round ∷ later) right are = omega (
    arith,
    one_more table search round round.said (length later) are.0 are.2 are.3
        (few_rounds round.table round.said round.search later are.4 are.5),
  )
  few_rounds table (Some (Ask state op)) search (round ∷ later) right are =
      let less = left_to_tell-less book ops table round.table state op among right are.0
      are.1.0 are.1.1 in
      omega (
        arith,
        less,
        one_more round.table search round round.said (length later)
            (same_table round.table) are.2 are.3
            (few_rounds round.table round.said round.search later are.4 are.5),
      )
    where
      same_table : (any : Table) → Extends any any
      same_table any = record {
        init = refl;
        steps = λ state op transition told. told;
        promises = λ op reply promised. promised;
      }

pub search_dialogues_end : SearchDialoguesEnd
search_dialogues_end book ops table search rounds among are = omega (
  arith,
  few_rounds book ops among table None search rounds tt are,
  left_to_tell-bounded ops (number_of_calls book) table,
)
