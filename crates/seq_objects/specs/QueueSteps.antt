-- A queue: what an operation makes of its list, and the reply.
use Rattle.std.proofs.Common.{◌≡◌, ℕ, ◌+◌, ◌≤◌, false, List, [], ◌∷◌, ◌++◌, length, Option, Some, None, if◌then◌else◌, ap, ◌∙◌, arith}
use Rattle.std.proofs.lemmas.Bool.{cond-false}
use Rattle.book_base.specs.declared.TheConstants.{BAD}
use Rattle.seq_objects.specs.declared.kind.Kind.TheVariants as kinds
use Rattle.seq_objects.specs.declared.queue.QueueOperation.{QueueOperation}
use Rattle.seq_objects.specs.declared.queue.QueueOperation.TheVariants.{Enqueue, Dequeue}
use Rattle.seq_objects.specs.Words as words
use Rattle.seq_objects.specs.Words.{entries, entry_of, is_operation_of, is_known_word, argument_of}
use Rattle.seq_objects.specs.Replies.{reply_done, reply_bad}
use Rattle.seq_objects.specs.Items.{first_taken, length-push, length-first_taken, not-found}

-- The operation that an operation word stands for, where a queue knows the word.
abbrev pub queue_operation : ℕ → Option QueueOperation
queue_operation word =
    if is_operation_of word words.enq then Some (Enqueue (argument_of word))
    else if is_operation_of word words.deq then Some Dequeue
    else None

-- The list of a queue after an operation, and the reply. An enqueue puts its value at the end, and
-- replies `done`; a dequeue takes the first item out and replies it modulo 2 ^ 32, or replies
-- `none` for an empty list; an unknown operation doesn't change the list, and gets the reply `bad`.
abbrev pub queue_after : List ℕ → Option QueueOperation → List ℕ × ℕ
queue_after list (Some (Enqueue value)) = (list ++ value ∷ [], reply_done)
queue_after list (Some Dequeue) = first_taken list
queue_after list None = (list, reply_bad)

-- An operation of a queue makes its list longer by at most one item.
pub length-queue_after : (list : List ℕ) (operation : Option QueueOperation)
    → length (queue_after list operation).0 ≤ length list + 1
length-queue_after list (Some (Enqueue value)) = length-push list value
length-queue_after list (Some Dequeue) = length-first_taken list
length-queue_after list None = omega arith

queue_operation-unknown : (word : ℕ) → is_known_word kinds.Queue word ≡ false
    → queue_operation word ≡ None
unfolding is_known_word entry_of entries
queue_operation-unknown word unknown =
    let not_enq = not-found (is_operation_of word) words.enq (words.deq ∷ []) unknown in
    let not_deq = not-found (is_operation_of word) words.deq [] not_enq.1 in
    cond-false (is_operation_of word words.enq) _ _ not_enq.0
    ∙ cond-false (is_operation_of word words.deq) _ _ not_deq.0

-- A word that a queue doesn't know changes no list, and gets the reply `BAD`.
pub queue_after-unknown : (list : List ℕ) (word : ℕ) → is_known_word kinds.Queue word ≡ false
    → queue_after list (queue_operation word) ≡ (list, BAD)
queue_after-unknown list word unknown = ap (queue_after list) (queue_operation-unknown word unknown)
