-- Checks of histories by what was told of a model: when they are sound, and what an answer says.
use Rattle.std.specs.Prelude.{◌≡◌, ℕ, ◌+◌, ◌≤◌, ◌<◌, ◌^◌, List, map, Option, Some, None, Vec, IsSome, IfSome}
use Rattle.std.specs.declared.alloc.Global.{Global}
use Rattle.book_base.specs.declared.call.Call.{Call}
use Rattle.book_base.specs.declared.call.Place.{Place}
use Rattle.book_base.specs.Order.{call_at}
use Rattle.book_base.specs.Book.{Page, calls_of, answers_of}
use Rattle.told_models.specs.declared.table.Transition.{Transition}
use Rattle.told_models.specs.declared.answer.Answer.TheVariants as told
use Rattle.told_models.specs.Table.{Table, told_step}
use Rattle.told_models.specs.Closed.{IsWordOf}
use Rattle.told_models.specs.Answers.{IsRightAnswer}
use Rattle.told_models.specs.declared.told_search.ToldSearch.{ToldSearch}
use Rattle.told_models.specs.Searching.{IsSearch}
use Rattle.told_models.specs.Weighing.{weight_of, most_weight}
use Rattle.model_text.specs.declared.told_line.ToldLine.{ToldLine}
use Rattle.model_text.specs.Told.{TellsAlike, told_table}
use Rattle.model_text.specs.ModelRules.{IsModelText}
use Rattle.model_checks.specs.Words.{operation_word, IsNumbered}
use Rattle.model_checks.specs.declared.check.ModelCheck.{ModelCheck}
use Rattle.model_checks.specs.declared.answer.ModelAnswer.{ModelAnswer}
use Rattle.model_checks.specs.declared.answer.ModelAnswer.TheVariants.{Legal, Illegal, Ask, Paused}

-- Each operation word of a book is that of a number.
abbrev pub AreNumbered : List Page → Type 0
AreNumbered book = (op : ℕ) → IsWordOf book op → IsNumbered op

-- The numbers of a table's states are below 2 ^ 32.
pub record AreSmall (table : Table) : Type 0 where
  pub init : table.init ≡ 0
  pub steps : (state op : ℕ) (transition : Transition)
      → told_step table state op ≡ Some transition → transition.next < 2 ^ 32

-- A check is sound: each caller of its book has at most one call that hasn't ended, its words and
-- the states of its table have numbers below 2 ^ 32, its search is one of its book by no more than
-- was told, and its order is right.
pub record IsSoundCheck (check : ModelCheck) : Type 0 where
  pub one_each : (i : ℕ) → calls_of check.book i ≤ answers_of check.book i + 1
  pub words : AreNumbered check.book
  pub states : AreSmall check.table
  pub search : IfSome check.search (IsSearch check.table check.book)
  pub order : IfSome check.order
      (λ order. IsRightAnswer check.table check.book (told.Legal order))

-- An answer of a check is right: with `Legal` the check has an order, which is legal for each
-- object that agrees with what was told; `Illegal` comes only where no such object has a legal
-- order; and `Ask` names a state and an operation of the book whose step wasn't told.
abbrev pub IsRightFor : ModelCheck → ModelAnswer → Type 0
IsRightFor check Legal = (order : Vec Place Global) × (check.order ≡ Some order)
    × IsRightAnswer check.table check.book (told.Legal order)
IsRightFor check Illegal = IsRightAnswer check.table check.book told.Illegal
IsRightFor check (Ask state op) =
    IsRightAnswer check.table check.book (told.Ask state (operation_word op))
IsRightFor check Paused = Unit {0}

-- a check has an order
abbrev pub HasOrder : ModelCheck → Type 0
HasOrder check = IsSome check.order

-- Some calls are those of the order that a check has, in their order. It is legal for each object
-- that agrees with what was told.
abbrev pub IsOrderOf : List Call → ModelCheck → Type 0
IsOrderOf calls check = (order : Vec Place Global) × (check.order ≡ Some order)
    × IsRightAnswer check.table check.book (told.Legal order) × (calls ≡ map call_at order.items)

-- The bytes are the evidence of a check: a model's text that has the check's book, and lines that
-- tell what was told, and nothing else.
pub record IsEvidenceOf (bytes : List ℕ) (check : ModelCheck) : Type 0 where
  pub lines : List ToldLine
  pub text : IsModelText bytes check.book lines
  pub alike : TellsAlike (told_table lines) check.table

-- The number for how much a check has left to try: that of its search, or the most that a search of
-- its book begins with.
abbrev pub left_by : List Page → Option ToldSearch → ℕ
left_by book None = most_weight book
left_by book (Some search) = weight_of book search

abbrev pub left_to_try : ModelCheck → ℕ
left_to_try check = left_by check.book check.search

-- With `Paused` a check has at least so much less left to try, and with each answer no more.
abbrev pub HasTried : ℕ → ModelCheck → ModelAnswer → ModelCheck → Type 0
HasTried steps old Paused new = left_to_try new + steps ≤ left_to_try old
HasTried steps old said new = left_to_try new ≤ left_to_try old
