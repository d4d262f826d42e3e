-- How a priority queue is read as a container: as puts and takes of values.
use Rattle.std.specs.Prelude.{map, Option, Some, None}
use Rattle.legal_orders.specs.Container.{Effect, Puts, Takes, Neither, Reading}
use Rattle.seq_objects.specs.declared.pqueue.PqueueOperation.{PqueueOperation}
use Rattle.seq_objects.specs.declared.pqueue.PqueueOperation.TheVariants.{Insert, Min}
use Rattle.seq_objects.specs.PqueueSteps.{pqueue_operation}
use Rattle.seq_objects.specs.Replies.{value_of, shown_value}

-- The effect of a priority queue's operation: an insert puts its value in, a min takes one out, and
-- an unknown operation does neither.
abbrev pub pqueue_deed : Option PqueueOperation → Effect
pqueue_deed (Some (Insert value)) = Puts value
pqueue_deed (Some Min) = Takes
pqueue_deed None = Neither

-- How a priority queue is read: an insert puts in, a min takes out, and the values of a list are
-- the low 32 bits of its words.
abbrev pub pqueue_reading : Reading
pqueue_reading = record {
  deed = λ word. pqueue_deed (pqueue_operation word);
  shown = shown_value;
  values = map value_of;
}
