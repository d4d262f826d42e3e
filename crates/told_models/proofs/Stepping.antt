use Rattle.std.proofs.Common.{ℕ, ◌≤◌, List, [], ◌∷◌, length, Option, Some, None, arith}
use Rattle.book_base.specs.Reaching.{list_after_run}
use Rattle.told_models.specs.declared.table.Transition.{Transition}
use Rattle.told_models.specs.Table.{Table, told_step}
use Rattle.told_models.specs.Completion.{completion, made_or_bad}

after_made : (table : Table) (state : ℕ) (transition : Option Transition) (steps : List (ℕ × ℕ))
    → ((other : ℕ) → length (list_after_run (completion table).next (other ∷ []) steps) ≤ 1)
    → length (list_after_run (completion table).next
    (made_or_bad (state ∷ []) transition).0 steps) ≤ 1
after_made table state (Some transition) steps all = all transition.next
after_made table state None steps all = all state

-- A completion goes from a list of one word to lists of one word alone.
pub one_word : (table : Table) (steps : List (ℕ × ℕ)) (state : ℕ)
    → length (list_after_run (completion table).next (state ∷ []) steps) ≤ 1
one_word table [] state = omega arith
one_word table (step ∷ steps) state =
    after_made table state (told_step table state step.0) steps (one_word table steps)
