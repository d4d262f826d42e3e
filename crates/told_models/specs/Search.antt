-- A search through the states of a table, breadth first.
use Rattle.std.specs.Prelude.{◌≡◌, ℕ, ◌<◌, ◌≤◌, List, slice_get, Contains, Some}
use Rattle.told_models.specs.declared.table.Transition.{Transition}
use Rattle.told_models.specs.Table.{Table, told_step}
use Rattle.told_models.specs.Closed.{IsNear}

-- A list of states has those of another one in their places.
abbrev pub Continues : List ℕ → List ℕ → Type 0
Continues old new = (k state : ℕ) → slice_get old k ≡ Some state → slice_get new k ≡ Some state

-- The step of an operation at a state is told, and leads to one of some states.
abbrev pub LeadsInto : Table → List ℕ → ℕ → ℕ → Type 0
LeadsInto table states state op = (transition : Transition)
    × (told_step table state op ≡ Some transition) × Contains states transition.next

-- At the states from one place of a list to another the steps of all words of a list are told, and
-- lead to states of the list.
abbrev pub AreExpanded : Table → List ℕ → List ℕ → ℕ → ℕ → Type 0
AreExpanded table ops states from to = (k state op : ℕ) → from ≤ k → k < to
    → slice_get states k ≡ Some state → Contains ops op → LeadsInto table states state op

-- Fewer than `most` told steps of the words of a list lead to each of some states.
abbrev pub AreNear : Table → List ℕ → ℕ → List ℕ → Type 0
AreNear table ops most states = (state : ℕ) → Contains states state
    → IsNear table (Contains ops) most state
