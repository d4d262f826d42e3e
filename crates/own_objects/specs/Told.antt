-- What was told of an object over states of any type.
use Rattle.std.specs.Prelude.{◌≡◌, ℕ, ◌<◌, ◌≤◌, List, length, Some, slice_get}
use Rattle.std.specs.Option.{option_map_or}
use Rattle.told_models.specs.declared.table.Transition.{Transition}
use Rattle.told_models.specs.Table.{Table, told_step, IsPromised, Extends}
use Rattle.own_objects.specs.Objects.{IsReadOnlyWith}

-- An object makes a transition by an operation at the state with a number, where `state_of` gives
-- its state for each number.
abbrev pub Makes : {S : Type 0} → (S → ℕ → S × ℕ) → (ℕ → S) → ℕ → ℕ → Transition → Type 0
Makes next state_of state op transition =
    next (state_of state) op ≡ (state_of transition.next, transition.reply)

-- A table is true of an object, where `state_of` gives the object's state for each number: the
-- object begins with the state of the table's first number, it makes each told step, and it keeps
-- each promise.
pub record IsTrueOf {S : Type 0} (init : S) (next : S → ℕ → S × ℕ) (state_of : ℕ → S)
    (table : Table) : Type 0 where
  pub begins : state_of table.init ≡ init
  pub steps : (state op : ℕ) (transition : Transition) → told_step table state op ≡ Some transition
      → Makes next state_of state op transition
  pub promises : (op reply : ℕ) → IsPromised table op reply → IsReadOnlyWith next op reply

-- The numbers of the states that a table names are below this number.
pub record AreBelow (count : ℕ) (table : Table) : Type 0 where
  pub begins : table.init < count
  pub steps : (state op : ℕ) (transition : Transition) → told_step table state op ≡ Some transition
      → (state < count) × (transition.next < count)

-- what the state at an index of a list is, and `otherwise` at no index of the list
abbrev pub value_at : {T S : Type 0} → (T → S) → S → List T → ℕ → S
value_at value otherwise states index = option_map_or value (slice_get states index) otherwise

-- A table is true of an object, where the numbers of states are their indexes in a list.
abbrev pub IsToldOf : {T S : Type 0} → (T → S) → S → (S → ℕ → S × ℕ) → List T → Table → Type 0
IsToldOf value init next states table =
    IsTrueOf init next (value_at value init states) table × AreBelow (length states) table

-- An object makes a transition by an operation at a state, where the numbers of states are their
-- indexes in a list, and the list has both states.
abbrev pub MakesAmong : {T S : Type 0} → (T → S) → S → (S → ℕ → S × ℕ) → List T → ℕ → ℕ → Transition
    → Type 0
MakesAmong value init next states state op transition =
    Makes next (value_at value init states) state op transition
    × (state < length states) × (transition.next < length states)

-- A list has the elements of another one at their indexes, and maybe more after them.
pub record Continues {T : Type 0} (old new : List T) : Type 0 where
  pub longer : length old ≤ length new
  pub same : (k : ℕ) → k < length old → slice_get new k ≡ slice_get old k

-- A table has what another one has, and the step of an operation at a state.
abbrev pub TellsMore : Table → Table → ℕ → ℕ → Type 0
TellsMore old new state op = Extends old new
    × ((transition : Transition) × (told_step new state op ≡ Some transition))
