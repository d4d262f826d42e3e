-- Tables of what was told of an object.
use Rattle.std.specs.Prelude.{◌≡◌, ◌↔◌, ℕ, Bool, IsTrue, nat_eq, ◌&&◌, List, Option, Some, None}
use Rattle.std.specs.List.{list_any}
use Rattle.std.specs.Map.{lookup}
use Rattle.std.specs.declared.cmp.Ordering.{Ordering}
use Rattle.std.specs.Ordering.{ordering_then, nat_cmp}
use Rattle.std.specs.BTreeMap.{BTreeMap, get}
use Rattle.std.specs.BTreeSet.{BTreeSet, contains}
use Rattle.told_models.specs.declared.table.Transition.{Transition}
use Rattle.told_models.specs.declared.fault.TellFault.{TellFault}
use Rattle.told_models.specs.declared.fault.TellFault.TheVariants as tell
use Rattle.told_models.specs.declared.fault.PromiseFault.{PromiseFault}
use Rattle.told_models.specs.declared.fault.PromiseFault.TheVariants as promise

-- A table of what was told of an object has the number of the object's initial state; pairs of a
-- state and an operation word, each with the transition that the operation makes at the state; and
-- pairs of an operation word and a reply with which the operation is promised to change no state.
-- Whoever tells gives the numbers to the states.
pub record Table : Type 0 where
  pub init : ℕ
  pub steps : List ((ℕ × ℕ) × Transition)
  pub promises : List (ℕ × ℕ)

-- Two pairs of numbers are the same.
abbrev pub is_same_pair : ℕ × ℕ → ℕ × ℕ → Bool
is_same_pair a b = nat_eq a.0 b.0 && nat_eq a.1 b.1

-- The transition that an operation was told to make at a state, or nothing where none was told.
abbrev pub told_step : Table → ℕ → ℕ → Option Transition
told_step table state op = lookup (is_same_pair (state, op)) table.steps

-- It is promised that an operation changes no state at which it has this reply.
abbrev pub IsPromised : Table → ℕ → ℕ → Type 0
IsPromised table op reply = IsTrue (list_any (is_same_pair (op, reply)) table.promises)

-- pairs of numbers in order: by the first number and then by the second one
abbrev pub pair_order : ℕ × ℕ → ℕ × ℕ → Ordering
pair_order a b = ordering_then (nat_cmp a.0 b.0) (nat_cmp a.1 b.1)

-- A map has at a pair of a state and an operation word what was told there, if it has anything.
abbrev pub HasToldStep : Table → BTreeMap (ℕ × ℕ) Transition → ℕ → ℕ → Type 0
HasToldStep table map state op = (transition : Transition)
    → get pair_order map (state, op) ≡ Some transition → told_step table state op ≡ Some transition

-- A map has the steps of a table: at each pair of a state and an operation word the transition that
-- was told there, and nothing where none was.
abbrev pub HasSteps : Table → BTreeMap (ℕ × ℕ) Transition → Type 0
HasSteps table map =
    (state op : ℕ) → get pair_order map (state, op) ≡ told_step table state op

-- A set has the promises of a table, and nothing else.
abbrev pub HasPromises : Table → BTreeSet (ℕ × ℕ) → Type 0
HasPromises table set = (op reply : ℕ)
    → contains pair_order set (op, reply) ≡ list_any (is_same_pair (op, reply)) table.promises

-- The told steps of a table keep its promises: each with a promised operation and reply leads back
-- to its own state.
abbrev pub KeepsPromises : Table → Type 0
KeepsPromises table = (state op : ℕ) (transition : Transition)
    → told_step table state op ≡ Some transition → IsPromised table op transition.reply
    → transition.next ≡ state

-- A table extends another one where it has the same initial state, and each step and each promise
-- of the other one.
pub record Extends (old new : Table) : Type 0 where
  pub init : new.init ≡ old.init
  pub steps : (state op : ℕ) (transition : Transition) → told_step old state op ≡ Some transition
      → told_step new state op ≡ Some transition
  pub promises : (op reply : ℕ) → IsPromised old op reply → IsPromised new op reply

-- A table tells a step besides those of another one: it has this step, and has at all other pairs
-- of a state and an operation word what the other one has, and the same promises.
pub record TellsStep (old new : Table) (state op : ℕ) (transition : Transition) : Type 0 where
  pub init : new.init ≡ old.init
  pub promises : new.promises ≡ old.promises
  pub told : told_step new state op ≡ Some transition
  pub others : (other word : ℕ) → ((other ≡ state) × (word ≡ op) → ⊥)
      → told_step new other word ≡ told_step old other word

-- A table takes a promise besides those of another one: it has this promise, has of all other pairs
-- of an operation word and a reply those that the other one has, and the same steps.
pub record TakesPromise (old new : Table) (op reply : ℕ) : Type 0 where
  pub init : new.init ≡ old.init
  pub steps : new.steps ≡ old.steps
  pub promised : IsPromised new op reply
  pub others : (word other : ℕ) → ((word ≡ op) × (other ≡ reply) → ⊥)
      → IsPromised new word other ↔ IsPromised old word other

-- A fault says why a table doesn't take a step: `Contradicts` names another transition that the
-- table has there; with `LeavesNot` the step has a promised operation and reply, and leads to
-- another state than its own; and with `NoMemory` the table has no transition there.
abbrev pub IsTellFault : Table → ℕ → ℕ → Transition → TellFault → Type 0
IsTellFault table state op transition (tell.Contradicts told) =
    (told_step table state op ≡ Some told) × (told ≡ transition → ⊥)
IsTellFault table state op transition tell.LeavesNot =
    IsPromised table op transition.reply × (transition.next ≡ state → ⊥)
IsTellFault table state op transition tell.NoMemory = told_step table state op ≡ None

-- A fault says why a table doesn't take a promise: `LeavesNot` names a state at which the operation
-- was told to have this reply and to lead to another state; and with `NoMemory` the table doesn't
-- have the promise.
abbrev pub IsPromiseFault : Table → ℕ → ℕ → PromiseFault → Type 0
IsPromiseFault table op reply (promise.LeavesNot state) = (transition : Transition)
    × (told_step table state op ≡ Some transition) × (transition.reply ≡ reply)
    × (transition.next ≡ state → ⊥)
IsPromiseFault table op reply promise.NoMemory = IsPromised table op reply → ⊥
