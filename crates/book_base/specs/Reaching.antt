-- Which cut and list an order reaches, which capacity the lists need, which operations are read-only
-- with a reply, and which replies an operation may have.
use Rattle.std.specs.Prelude.{◌≡◌, ℕ, ◌<◌, ◌≤◌, List, [], ◌∷◌, ◌++◌, length, map}
use Rattle.book_base.specs.declared.call.Call.{Call}
use Rattle.book_base.specs.declared.call.Place.{Place}
use Rattle.book_base.specs.SeqSpec.{SeqSpec}
use Rattle.book_base.specs.Cut.{Holds}
use Rattle.book_base.specs.Book.{Page}
use Rattle.book_base.specs.Order.{StandsAt, step_at}

-- the object's list after the operations of a run, applied in order from a first list on
abbrev pub list_after_run : (List ℕ → ℕ → List ℕ × ℕ) → List ℕ → List (ℕ × ℕ) → List ℕ
list_after_run next list [] = list
list_after_run next list (step ∷ steps) = list_after_run next (next list step.0).0 steps

-- A capacity suffices for some operations after a list: each list that the object reaches from this
-- one by at most this many operations has at most as many words as the capacity.
abbrev pub SufficesAfter : (List ℕ → ℕ → List ℕ × ℕ) → List ℕ → ℕ → ℕ → Type 0
SufficesAfter next list operations capacity = (steps : List (ℕ × ℕ)) → length steps ≤ operations
    → length (list_after_run next list steps) ≤ capacity

-- A capacity suffices for some operations of an object: for this many after its first list.
abbrev pub IsCapacityFor : SeqSpec → ℕ → ℕ → Type 0
IsCapacityFor spec operations capacity = SufficesAfter spec.next spec.init operations capacity

-- An order reaches a cut and a list: the cut holds the calls that stand in the order and no others,
-- and the list is the object's after them.
pub record Reaches (spec : SeqSpec) (book : List Page) (order : List Place)
    (cut list : List ℕ) : Type 0 where
  pub holds : (k : ℕ) (call : Call) → StandsAt order k call → Holds cut call
  pub held : (call : Call) → Holds cut call → (k : ℕ) × StandsAt order k call
  pub reached : list_after_run spec.next spec.init (map (step_at book) order) ≡ list

-- An operation is read-only with this reply: it doesn't change any list at which it has the reply.
abbrev pub Leaves : (List ℕ → ℕ → List ℕ × ℕ) → ℕ → ℕ → Type 0
Leaves next op reply = (list : List ℕ) → (next list op).1 ≡ reply → (next list op).0 ≡ list

-- An operation may have this reply: at some list the object gives it.
abbrev pub MayReply : (List ℕ → ℕ → List ℕ × ℕ) → ℕ → ℕ → Type 0
MayReply next op reply = (list : List ℕ) × ((next list op).1 ≡ reply)
