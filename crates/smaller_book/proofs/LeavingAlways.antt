-- Operations that change no list: each operation of each kind that changes a list does so with one
-- of four replies.
use Rattle.std.proofs.Common.{◌≡◌, ℕ, List, [], length, Option, Some, None, true, refl, sym, ap, arith}
use Rattle.std.proofs.lemmas.Bool.{true≢false}
use Rattle.book_base.specs.Reaching.{Leaves}
use Rattle.seq_objects.specs.declared.kind.Kind.{Kind}
use Rattle.seq_objects.specs.declared.kind.Kind.TheVariants as kinds
use Rattle.seq_objects.specs.declared.queue.QueueOperation.{QueueOperation}
use Rattle.seq_objects.specs.declared.queue.QueueOperation.TheVariants as queue
use Rattle.seq_objects.specs.declared.stack.StackOperation.{StackOperation}
use Rattle.seq_objects.specs.declared.stack.StackOperation.TheVariants as stack
use Rattle.seq_objects.specs.declared.register.RegisterOperation.{RegisterOperation}
use Rattle.seq_objects.specs.declared.register.RegisterOperation.TheVariants as register
use Rattle.seq_objects.specs.declared.counter.CounterOperation.{CounterOperation}
use Rattle.seq_objects.specs.declared.counter.CounterOperation.TheVariants as counter
use Rattle.seq_objects.specs.declared.int_set.IntSetOperation.{IntSetOperation}
use Rattle.seq_objects.specs.declared.int_set.IntSetOperation.TheVariants as int_set
use Rattle.seq_objects.specs.declared.pqueue.PqueueOperation.{PqueueOperation}
use Rattle.seq_objects.specs.declared.pqueue.PqueueOperation.TheVariants as pqueue
use Rattle.seq_objects.specs.declared.cas_register.CasRegisterOperation.{CasRegisterOperation}
use Rattle.seq_objects.specs.declared.cas_register.CasRegisterOperation.TheVariants as cas_register
use Rattle.seq_objects.specs.declared.map.MapOperation.{MapOperation}
use Rattle.seq_objects.specs.declared.map.MapOperation.TheVariants as map
use Rattle.seq_objects.specs.Replies.{reply_done, reply_none, reply_yes, reply_value}
use Rattle.seq_objects.specs.QueueSteps.{queue_operation, queue_after}
use Rattle.seq_objects.specs.StackSteps.{stack_operation, stack_after}
use Rattle.seq_objects.specs.RegisterSteps.{register_operation, register_after}
use Rattle.seq_objects.specs.CounterSteps.{counter_operation, counter_after}
use Rattle.seq_objects.specs.IntSetSteps.{set_operation, set_after}
use Rattle.seq_objects.specs.PqueueSteps.{pqueue_operation, pqueue_after}
use Rattle.seq_objects.specs.CasRegisterSteps.{cas_register_operation, cas_register_after}
use Rattle.seq_objects.specs.MapSteps.{map_operation, map_after}
use Rattle.seq_objects.specs.Objects.{kind_next}
use Rattle.seq_objects.proofs.ReadOnly.{LeavesBy, first_taken_leaves, last_taken_leaves, counted_leaves, deleted_leaves, added_leaves, removed_leaves, compared_and_set_leaves, expected_is_small, put_first_changes}
use Rattle.smaller_book.specs.ReadOnly.{LeavesAlways}

-- A step changes no list with these replies: `done`, `none`, `yes` and the value 0.
record LeavesByFour (step : List ℕ → List ℕ × ℕ) : Type 0 where
  done : LeavesBy step reply_done
  none : LeavesBy step reply_none
  yes : LeavesBy step reply_yes
  value : LeavesBy step (reply_value 0)

-- A step changes no list at all.
abbrev Stays : (List ℕ → List ℕ × ℕ) → Type 0
Stays step = (list : List ℕ) → (step list).0 ≡ list

queue_stays : (o : Option QueueOperation) → LeavesByFour (λ list. queue_after list o)
    → Stays (λ list. queue_after list o)
queue_stays (Some (queue.Enqueue v)) leaves list =
    absurd (omega (arith, ap length (leaves.done [] refl)))
queue_stays (Some queue.Dequeue) leaves list =
    absurd (true≢false (sym ((first_taken_leaves (reply_value 0) true refl).1 leaves.value)))
queue_stays None leaves list = refl

stack_stays : (o : Option StackOperation) → LeavesByFour (λ list. stack_after list o)
    → Stays (λ list. stack_after list o)
stack_stays (Some (stack.Push v)) leaves list =
    absurd (omega (arith, ap length (leaves.done [] refl)))
stack_stays (Some stack.Pop) leaves list =
    absurd (true≢false (sym ((last_taken_leaves (reply_value 0) true refl).1 leaves.value)))
stack_stays None leaves list = refl

register_stays : (o : Option RegisterOperation) → LeavesByFour (λ list. register_after list o)
    → Stays (λ list. register_after list o)
register_stays (Some (register.Write v)) leaves list =
    absurd (omega (arith, ap length (leaves.done [] refl)))
register_stays (Some register.Read) leaves list = refl
register_stays None leaves list = refl

counter_stays : (o : Option CounterOperation) → LeavesByFour (λ list. counter_after list o)
    → Stays (λ list. counter_after list o)
counter_stays (Some counter.Increment) leaves list =
    absurd (true≢false (sym ((counted_leaves (reply_value 0) true refl).1 leaves.value)))
counter_stays None leaves list = refl

set_stays : (o : Option IntSetOperation) → LeavesByFour (λ list. set_after list o)
    → Stays (λ list. set_after list o)
set_stays (Some (int_set.Add v)) leaves list =
    absurd (true≢false (sym ((added_leaves v reply_yes).1 leaves.yes)))
set_stays (Some (int_set.Remove v)) leaves list =
    absurd (true≢false (sym ((removed_leaves v reply_yes).1 leaves.yes)))
set_stays (Some (int_set.Has v)) leaves list = refl
set_stays None leaves list = refl

pqueue_stays : (o : Option PqueueOperation) → LeavesByFour (λ list. pqueue_after list o)
    → Stays (λ list. pqueue_after list o)
pqueue_stays (Some (pqueue.Insert v)) leaves list =
    absurd (omega (arith, ap length (leaves.done [] refl)))
pqueue_stays (Some pqueue.Min) leaves list =
    absurd (true≢false (sym ((first_taken_leaves (reply_value 0) true refl).1 leaves.value)))
pqueue_stays None leaves list = refl

cas_register_stays : (word : ℕ) (o : Option CasRegisterOperation) → cas_register_operation word ≡ o
    → LeavesByFour (λ list. cas_register_after list o) → Stays (λ list. cas_register_after list o)
cas_register_stays word (Some (cas_register.Write v)) is leaves list =
    absurd (omega (arith, ap length (leaves.done [] refl)))
cas_register_stays word (Some cas_register.Read) is leaves list = refl
cas_register_stays word (Some (cas_register.CompareAndSet expected new)) is leaves list =
    absurd (true≢false (sym ((compared_and_set_leaves expected new reply_yes
    (expected_is_small word expected new is)).1 leaves.yes)))
cas_register_stays word None is leaves list = refl

map_stays : (o : Option MapOperation) → LeavesByFour (λ list. map_after list o)
    → Stays (λ list. map_after list o)
map_stays (Some (map.Put key value)) leaves list =
    let change = put_first_changes key value in
    absurd (change.2 (leaves.none change.0 change.1))
map_stays (Some (map.Get key)) leaves list = refl
map_stays (Some (map.Delete key)) leaves list =
    absurd (true≢false (sym ((deleted_leaves key (reply_value 0) true refl).1 leaves.value)))
map_stays None leaves list = refl

stays_by_kind : (kind : Kind) (word : ℕ) → LeavesByFour (λ list. kind_next kind list word)
    → Stays (λ list. kind_next kind list word)
unfolding kind_next
stays_by_kind kinds.Queue word leaves = queue_stays (queue_operation word) leaves
stays_by_kind kinds.Stack word leaves = stack_stays (stack_operation word) leaves
stays_by_kind kinds.Register word leaves = register_stays (register_operation word) leaves
stays_by_kind kinds.Counter word leaves = counter_stays (counter_operation word) leaves
stays_by_kind kinds.IntSet word leaves = set_stays (set_operation word) leaves
stays_by_kind kinds.Pqueue word leaves = pqueue_stays (pqueue_operation word) leaves
stays_by_kind kinds.CasRegister word leaves =
    cas_register_stays word (cas_register_operation word) refl leaves
stays_by_kind kinds.Map word leaves = map_stays (map_operation word) leaves

-- An operation of a kind that changes no list with four replies changes none with any.
pub leaves_always : (kind : Kind) (word : ℕ) → Leaves (kind_next kind) word reply_done
    → Leaves (kind_next kind) word reply_none → Leaves (kind_next kind) word reply_yes
    → Leaves (kind_next kind) word (reply_value 0) → LeavesAlways (kind_next kind) word
leaves_always kind word by_done by_none by_yes by_value reply list replied =
    stays_by_kind kind word
    (record { done = by_done; none = by_none; yes = by_yes; value = by_value }) list
