-- Queues, stacks and priority queues are containers that begin empty, so that counts refute their
-- books.
use Rattle.std.proofs.Common.{◌≡◌, ◌↔◌, ℕ, Bool, true, List, [], refl}
use Rattle.std.proofs.lemmas.Bool.{false≢true}
use Rattle.book_base.specs.declared.call.Call.{Call}
use Rattle.book_base.specs.Book.{Page}
use Rattle.book_base.specs.Order.{HasLegalOrder}
use Rattle.legal_orders.specs.Container.{Reading, IsContainer, IsQueue, IsStack}
use Rattle.legal_orders.proofs.QueueRuns.{queue_is_container, stack_is_container}
use Rattle.seq_objects.specs.declared.kind.Kind.{Kind}
use Rattle.seq_objects.specs.declared.kind.Kind.TheVariants as kinds
use Rattle.seq_objects.specs.Objects.{kind_init, kind_next, kind_spec}
use Rattle.kind_search.specs.Readings.{queue_reading, stack_reading}
use Rattle.kind_search.specs.PqueueReading.{pqueue_reading}
use Rattle.kind_search.proofs.Reading.{queue_is_read, stack_is_read}
use Rattle.broken_rules.specs.Deeds.{reading_of}
use Rattle.broken_rules.specs.Rules.{holds_values}
use Rattle.broken_rules.proofs.Least.{pqueue_is_container}
use Rattle.refutations.specs.declared.counts.Sort.TheVariants.{PutsBefore, TakesHeld}
use Rattle.refutations.specs.Counts.{AreMore, TakesExceedPuts, FindMissesPuts}
use Rattle.refutations.specs.Counting.{IsOfSort, FindsNothing}
use Rattle.refutations.proofs.Matching.{excess_takes_have_no_order, missed_puts_have_no_order}

queue_is : IsQueue queue_reading (kind_next kinds.Queue)
unfolding kind_next
queue_is = queue_is_read

stack_is : IsStack stack_reading (kind_next kinds.Stack)
unfolding kind_next
stack_is = stack_is_read

pqueue_is : IsContainer pqueue_reading (kind_next kinds.Pqueue)
unfolding kind_next
pqueue_is = pqueue_is_container

containers : (kind : Kind) → holds_values kind ≡ true
    → IsContainer (reading_of kind) (kind_next kind)
    × ((reading_of kind).values (kind_init kind) ≡ [])
containers kinds.Queue is =
    (queue_is_container queue_reading (kind_next kinds.Queue) queue_is, refl)
containers kinds.Stack is =
    (stack_is_container stack_reading (kind_next kinds.Stack) stack_is, refl)
containers kinds.Pqueue is = (pqueue_is, refl)
containers _ is = absurd (false≢true is)

-- No book of a container has a legal order in which more takes show some values up to a moment than
-- puts of them begin up to it.
pub excess_takes : (kind : Kind) (book : List Page) (values : List ℕ) (m : ℕ)
    → holds_values kind ≡ true → TakesExceedPuts (reading_of kind) book values m
    → HasLegalOrder (kind_spec kind) book → ⊥
excess_takes kind book values m is it =
    excess_takes_have_no_order (reading_of kind) (kind_spec kind) book values m
    (containers kind is).0 (containers kind is).1 it

-- No book of a container has a legal order in which a take finds nothing although puts of some
-- values are left.
pub missed_puts : (kind : Kind) (book : List Page) (values : List ℕ) (find : Call)
    → holds_values kind ≡ true → FindMissesPuts (reading_of kind) book values find
    → HasLegalOrder (kind_spec kind) book → ⊥
missed_puts kind book values find is it =
    missed_puts_have_no_order (reading_of kind) (kind_spec kind) book values find
    (containers kind is).0 (containers kind is).1 it

-- A call that finds nothing misses puts exactly where more of these come before it than takes.
pub is_missed : (reading : Reading) (book : List Page) (values : List ℕ) (find : Call)
    (more : Bool) → FindsNothing reading book find
    → more ≡ true ↔ AreMore (IsOfSort reading book values (PutsBefore find))
    (IsOfSort reading book values (TakesHeld find))
    → more ≡ true ↔ FindMissesPuts reading book values find
is_missed reading book values find more finds is = (
  λ e. record {
    r = finds.0.0;
    answered = finds.0.1;
    none = finds.0.2;
    takes = finds.1;
    more = is.0 e;
  },
  λ it. is.1 it.more,
)
