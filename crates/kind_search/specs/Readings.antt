-- How queues and stacks are read as containers: as puts and takes of values. The value of a word of
-- a list is its low 32 bits, which a reply shows.
use Rattle.std.specs.Prelude.{map, reverse, Option, Some, None}
use Rattle.legal_orders.specs.Container.{Effect, Puts, Takes, Neither, Reading}
use Rattle.seq_objects.specs.declared.queue.QueueOperation.{QueueOperation}
use Rattle.seq_objects.specs.declared.queue.QueueOperation.TheVariants.{Enqueue, Dequeue}
use Rattle.seq_objects.specs.declared.stack.StackOperation.{StackOperation}
use Rattle.seq_objects.specs.declared.stack.StackOperation.TheVariants.{Push, Pop}
use Rattle.seq_objects.specs.Replies.{value_of, shown_value}
use Rattle.seq_objects.specs.QueueSteps.{queue_operation}
use Rattle.seq_objects.specs.StackSteps.{stack_operation}

-- The effect of a queue's operation: an enqueue puts its value in, a dequeue takes one out, and an
-- unknown operation does neither.
abbrev pub queue_deed : Option QueueOperation → Effect
queue_deed (Some (Enqueue value)) = Puts value
queue_deed (Some Dequeue) = Takes
queue_deed None = Neither

-- How a queue is read: an enqueue puts in, a dequeue takes out, and the values of a list are those
-- of its words, in order.
abbrev pub queue_reading : Reading
queue_reading = record {
  deed = λ word. queue_deed (queue_operation word);
  shown = shown_value;
  values = map value_of;
}

-- The effect of a stack's operation: a push puts its value in, a pop takes one out, and an unknown
-- operation does neither.
abbrev pub stack_deed : Option StackOperation → Effect
stack_deed (Some (Push value)) = Puts value
stack_deed (Some Pop) = Takes
stack_deed None = Neither

-- How a stack is read: a push puts in, a pop takes out, and the values of a list are those of its
-- words, from the word at its end, which was pushed last, to its first word.
abbrev pub stack_reading : Reading
stack_reading = record {
  deed = λ word. stack_deed (stack_operation word);
  shown = shown_value;
  values = λ list. reverse (map value_of list);
}
