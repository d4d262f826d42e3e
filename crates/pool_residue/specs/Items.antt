-- Puts of a container, and the lists in which they may stand.
use Rattle.std.specs.Prelude.{◌≡◌, ◌≢◌, ℕ, ◌<◌, List, [], ◌∷◌, ◌++◌, map, Option, Some, None, ⊤}
use Rattle.book_base.specs.SeqSpec.{SeqSpec}
use Rattle.legal_orders.specs.Container.{Effect, Puts, Takes, Neither}
use Rattle.seq_objects.specs.declared.kind.Kind.{Kind}
use Rattle.seq_objects.specs.declared.kind.Kind.TheVariants as kinds
use Rattle.seq_objects.specs.declared.queue.QueueOperation.{QueueOperation}
use Rattle.seq_objects.specs.declared.queue.QueueOperation.TheVariants.{Enqueue, Dequeue}
use Rattle.seq_objects.specs.declared.pqueue.PqueueOperation.{PqueueOperation}
use Rattle.seq_objects.specs.declared.pqueue.PqueueOperation.TheVariants.{Insert, Min}
use Rattle.seq_objects.specs.Objects.{kind_spec}
use Rattle.seq_objects.specs.QueueSteps.{queue_operation}
use Rattle.seq_objects.specs.PqueueSteps.{pqueue_operation}
use Rattle.seq_objects.specs.Items.{inserted}
use Rattle.late_residue.specs.Reached.{Has}
use Rattle.pool_residue.specs.declared.container.Container.{Container}
use Rattle.pool_residue.specs.declared.container.Container.TheVariants.{Queue, PriorityQueue}

-- the kind of a container
abbrev pub kind_of : Container → Kind
kind_of Queue = kinds.Queue
kind_of PriorityQueue = kinds.Pqueue

-- the sequential object of a container
abbrev pub spec_of : Container → SeqSpec
spec_of container = kind_spec (kind_of container)

-- what an operation of a queue does to what is held
abbrev pub queue_effect : Option QueueOperation → Effect
queue_effect (Some (Enqueue value)) = Puts value
queue_effect (Some Dequeue) = Takes
queue_effect None = Neither

-- what an operation of a priority queue does to what is held
abbrev pub pqueue_effect : Option PqueueOperation → Effect
pqueue_effect (Some (Insert value)) = Puts value
pqueue_effect (Some Min) = Takes
pqueue_effect None = Neither

-- what an operation word does to what is held
abbrev pub effect_of : Container → ℕ → Effect
effect_of Queue word = queue_effect (queue_operation word)
effect_of PriorityQueue word = pqueue_effect (pqueue_operation word)

-- A put of a value: the number of the event by which it was called, and that of its return, where
-- it has returned.
pub record Item : Type 0 where
  pub call : ℕ
  pub value : ℕ
  pub end : Option ℕ

-- One item must stand before another one in each list: it was put into a queue by a call that
-- returned before the other one was called, or into a priority queue with a lesser value.
abbrev pub MustStandBefore : Container → Item → Item → Type 0
MustStandBefore Queue one other = (end : ℕ) × (one.end ≡ Some end) × (end < other.call)
MustStandBefore PriorityQueue one other = one.value < other.value

-- none of some items must stand before an item
abbrev pub MayBeFirst : Container → List Item → Item → Type 0
MayBeFirst container items one = (other : Item) → Has items other
    → MustStandBefore container other one → ⊥

-- items are in an order in which none stands after one before which it must stand
abbrev pub AreInOrder : Container → List Item → Type 0
AreInOrder container [] = ⊤
AreInOrder container (first ∷ rest) = MayBeFirst container rest first
    × AreInOrder container rest

-- no two of some items were put in by one call
abbrev pub AreDistinct : List Item → Type 0
AreDistinct [] = ⊤
AreDistinct (first ∷ rest) = ((other : Item) → Has rest other → other.call ≢ first.call)
    × AreDistinct rest

-- the values of some items, in their order
abbrev pub values_of : List Item → List ℕ
values_of items = map (λ (one : Item). one.value) items

-- the list after a value is put in: at the end of a queue, in its place in a priority queue
abbrev pub list_with : Container → List ℕ → ℕ → List ℕ
list_with Queue list value = list ++ value ∷ []
list_with PriorityQueue list value = inserted list value
