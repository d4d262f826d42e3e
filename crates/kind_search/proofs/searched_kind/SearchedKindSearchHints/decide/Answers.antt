use Rattle.std.proofs.Common.{◌≡◌, ◌^◌, [], refl, sym, subst}
use Rattle.legal_orders.specs.Container.{IsQueue, IsContainer}
use Rattle.legal_orders.proofs.QueueRuns.{stack_is_container}
use Rattle.list_pruning.specs.LastFirst.{GivesLastFirst}
use Rattle.seq_objects.specs.Objects.{kind_init, kind_next}
use Rattle.kind_search.specs.Readings.{queue_reading, stack_reading}
use Rattle.kind_search.proofs.Reading.{queue_is_read, stack_is_read}
use Rattle.kind_search.proofs.LastFirst.{stack_gives_last_first}
use Rattle.kind_search.proofs.searched_kind.SearchedKindSearchHints.decide.Goals as goal

pub decide_queue-requires-clause-queue : goal.decide_queue-requires-clause-queue
unfolding kind_next
decide_queue-requires-clause-queue c =
    subst (λ kind. IsQueue queue_reading (kind_next kind)) (sym c.in-Queue.is) queue_is_read

pub decide_queue-requires-clause-empty : goal.decide_queue-requires-clause-empty
decide_queue-requires-clause-empty c =
    subst (λ kind. queue_reading.values (kind_init kind) ≡ []) (sym c.in-Queue.is) refl

pub decide_stack-requires-clause-stack : goal.decide_stack-requires-clause-stack
unfolding kind_next
decide_stack-requires-clause-stack c = (
  2 ^ 32,
  subst (λ kind. GivesLastFirst stack_reading (kind_next kind) (2 ^ 32)) (sym c.in-Stack.is)
      stack_gives_last_first,
)

pub decide_stack-requires-clause-empty : goal.decide_stack-requires-clause-empty
decide_stack-requires-clause-empty c =
    subst (λ kind. kind_init kind ≡ []) (sym c.in-Stack.is) refl

pub decide_stack-requires-clause-container : goal.decide_stack-requires-clause-container
unfolding kind_next
decide_stack-requires-clause-container c =
    subst (λ kind. IsContainer stack_reading (kind_next kind)) (sym c.in-Stack.is)
    (stack_is_container stack_reading _ stack_is_read)

pub decide_stack-requires-clause-nothing : goal.decide_stack-requires-clause-nothing
decide_stack-requires-clause-nothing c =
    subst (λ kind. stack_reading.values (kind_init kind) ≡ []) (sym c.in-Stack.is) refl
