-- What operations of containers do to a list.
use Rattle.std.proofs.Common.{◌≡◌, ℕ, List, [], ◌∷◌, ◌++◌, Option, Some, None, refl, sym, ap}
use Rattle.legal_orders.specs.Container.{Puts, Takes, Neither, value_put}
use Rattle.seq_objects.specs.declared.queue.QueueOperation.{QueueOperation}
use Rattle.seq_objects.specs.declared.queue.QueueOperation.TheVariants.{Enqueue, Dequeue}
use Rattle.seq_objects.specs.declared.pqueue.PqueueOperation.{PqueueOperation}
use Rattle.seq_objects.specs.declared.pqueue.PqueueOperation.TheVariants.{Insert, Min}
use Rattle.std.proofs.lemmas.Option.{none-some, same_Some}
use Rattle.seq_objects.specs.Replies.{reply_done, reply_bad}
use Rattle.seq_objects.specs.Items.{first_taken, inserted}
use Rattle.seq_objects.specs.QueueSteps.{queue_operation, queue_after}
use Rattle.seq_objects.specs.PqueueSteps.{pqueue_operation, pqueue_after}
use Rattle.seq_objects.specs.Objects.{kind_next}
use Rattle.pool_residue.specs.declared.container.Container.{Container}
use Rattle.pool_residue.specs.declared.container.Container.TheVariants.{Queue, PriorityQueue}
use Rattle.pool_residue.specs.Items.{spec_of, queue_effect, pqueue_effect, effect_of, list_with}

same_put : (v w : ℕ) → Puts v ≡ Puts w → v ≡ w
same_put v w e = same_Some v w (ap value_put e)

no_put : {X : Type 0} (v : ℕ) → None ≡ value_put (Puts v) → X
no_put v e = absurd (none-some v e)

queue_put : (o : Option QueueOperation) (v : ℕ) (list : List ℕ) → queue_effect o ≡ Puts v
    → queue_after list o ≡ (list ++ v ∷ [], reply_done)
queue_put (Some (Enqueue value)) v list e =
    ap (λ (w : ℕ). (list ++ w ∷ [], reply_done)) (same_put value v e)
queue_put (Some Dequeue) v list e = no_put v (ap value_put e)
queue_put None v list e = no_put v (ap value_put e)

pqueue_put : (o : Option PqueueOperation) (v : ℕ) (list : List ℕ) → pqueue_effect o ≡ Puts v
    → pqueue_after list o ≡ (inserted list v, reply_done)
pqueue_put (Some (Insert value)) v list e =
    ap (λ (w : ℕ). (inserted list w, reply_done)) (same_put value v e)
pqueue_put (Some Min) v list e = no_put v (ap value_put e)
pqueue_put None v list e = no_put v (ap value_put e)

pub after_put : (container : Container) (op v : ℕ) (list : List ℕ)
    → effect_of container op ≡ Puts v
    → (spec_of container).next list op ≡ (list_with container list v, reply_done)
unfolding kind_next
after_put Queue op v list e = queue_put (queue_operation op) v list e
after_put PriorityQueue op v list e = pqueue_put (pqueue_operation op) v list e

queue_take : (o : Option QueueOperation) (list : List ℕ) → queue_effect o ≡ Takes
    → queue_after list o ≡ first_taken list
queue_take (Some (Enqueue value)) list e = no_put value (sym (ap value_put e))
queue_take (Some Dequeue) list e = refl
queue_take None list e = cc

pqueue_take : (o : Option PqueueOperation) (list : List ℕ) → pqueue_effect o ≡ Takes
    → pqueue_after list o ≡ first_taken list
pqueue_take (Some (Insert value)) list e = no_put value (sym (ap value_put e))
pqueue_take (Some Min) list e = refl
pqueue_take None list e = cc

pub after_take : (container : Container) (op : ℕ) (list : List ℕ) → effect_of container op ≡ Takes
    → (spec_of container).next list op ≡ first_taken list
unfolding kind_next
after_take Queue op list e = queue_take (queue_operation op) list e
after_take PriorityQueue op list e = pqueue_take (pqueue_operation op) list e

queue_neither : (o : Option QueueOperation) (list : List ℕ) → queue_effect o ≡ Neither
    → queue_after list o ≡ (list, reply_bad)
queue_neither (Some (Enqueue value)) list e = no_put value (sym (ap value_put e))
queue_neither (Some Dequeue) list e = cc
queue_neither None list e = refl

pqueue_neither : (o : Option PqueueOperation) (list : List ℕ) → pqueue_effect o ≡ Neither
    → pqueue_after list o ≡ (list, reply_bad)
pqueue_neither (Some (Insert value)) list e = no_put value (sym (ap value_put e))
pqueue_neither (Some Min) list e = cc
pqueue_neither None list e = refl

pub after_neither : (container : Container) (op : ℕ) (list : List ℕ)
    → effect_of container op ≡ Neither → (spec_of container).next list op ≡ (list, reply_bad)
unfolding kind_next
after_neither Queue op list e = queue_neither (queue_operation op) list e
after_neither PriorityQueue op list e = pqueue_neither (pqueue_operation op) list e
