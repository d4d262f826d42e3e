-- Tables that are closed under the operations of a book.
use Rattle.std.specs.Prelude.{◌≡◌, ℕ, ◌<◌, List, [], ◌∷◌, length, sum_by, Some}
use Rattle.std.specs.List.{AllByRecursion}
use Rattle.book_base.specs.declared.call.Call.{Call}
use Rattle.book_base.specs.Book.{Page, operation_of}
use Rattle.told_models.specs.declared.table.Transition.{Transition}
use Rattle.told_models.specs.Table.{Table, told_step}

-- Told steps lead from one state to another, one after another: each has an operation word and its
-- reply.
abbrev pub Leads : Table → ℕ → List (ℕ × ℕ) → ℕ → Type 0
Leads table from [] to = from ≡ to
Leads table from (step ∷ steps) to = (transition : Transition)
    × (told_step table from step.0 ≡ Some transition) × (transition.reply ≡ step.1)
    × Leads table transition.next steps to

-- Each of some steps has an operation word of these.
abbrev pub HaveWords : (ℕ → Type 0) → List (ℕ × ℕ) → Type 0
HaveWords IsWord steps = AllByRecursion (λ step. IsWord step.0) steps

-- A state is near the initial one: fewer than `most` told steps of these words lead to it.
pub record IsNear (table : Table) (IsWord : ℕ → Type 0) (most state : ℕ) : Type 0 where
  pub steps : List (ℕ × ℕ)
  pub few : length steps < most
  pub words : HaveWords IsWord steps
  pub reached : Leads table table.init steps state

-- A table is closed to a depth under some operation words: at each state to which fewer than `most`
-- told steps of these words lead from the initial state, the step of each of these words is told.
abbrev pub IsClosedTo : Table → (ℕ → Type 0) → ℕ → Type 0
IsClosedTo table IsWord most = (state op : ℕ) → IsNear table IsWord most state → IsWord op
    → (transition : Transition) × (told_step table state op ≡ Some transition)

-- An operation word is a book's where some call of the book has it.
abbrev pub IsWordOf : List Page → ℕ → Type 0
IsWordOf book op = (call : Call) × (operation_of book call ≡ Some op)

-- How many calls a book has, and so how many places a legal order has at most.
abbrev pub number_of_calls : List Page → ℕ
number_of_calls book = sum_by (λ page. length page.operations) book
