-- A priority queue: what an operation makes of its list, and the reply.
use Rattle.std.proofs.Common.{◌≡◌, ℕ, ◌+◌, ◌≤◌, false, List, [], ◌∷◌, length, Option, Some, None, if◌then◌else◌, ap, ◌∙◌, arith}
use Rattle.std.proofs.lemmas.Bool.{cond-false}
use Rattle.book_base.specs.declared.TheConstants.{BAD}
use Rattle.seq_objects.specs.declared.kind.Kind.TheVariants as kinds
use Rattle.seq_objects.specs.declared.pqueue.PqueueOperation.{PqueueOperation}
use Rattle.seq_objects.specs.declared.pqueue.PqueueOperation.TheVariants.{Insert, Min}
use Rattle.seq_objects.specs.Words as words
use Rattle.seq_objects.specs.Words.{entries, entry_of, is_operation_of, is_known_word, argument_of}
use Rattle.seq_objects.specs.Replies.{reply_done, reply_bad}
use Rattle.seq_objects.specs.Items.{first_taken, inserted, length-first_taken, length-inserted, not-found}

-- The operation that an operation word stands for, where a priority queue knows the word.
abbrev pub pqueue_operation : ℕ → Option PqueueOperation
pqueue_operation word =
    if is_operation_of word words.insert then Some (Insert (argument_of word))
    else if is_operation_of word words.min then Some Min
    else None

-- The list of a priority queue after an operation, and the reply. An insert puts its value before
-- the first greater item, or at the end, and replies `done`; a min takes the first item out and
-- replies it modulo 2 ^ 32, or replies `none` for an empty list; an unknown operation doesn't
-- change the list, and gets the reply `bad`.
abbrev pub pqueue_after : List ℕ → Option PqueueOperation → List ℕ × ℕ
pqueue_after list (Some (Insert value)) = (inserted list value, reply_done)
pqueue_after list (Some Min) = first_taken list
pqueue_after list None = (list, reply_bad)

-- An operation of a priority queue makes its list longer by at most one item.
pub length-pqueue_after : (list : List ℕ) (operation : Option PqueueOperation)
    → length (pqueue_after list operation).0 ≤ length list + 1
length-pqueue_after list (Some (Insert value)) = omega (arith, length-inserted list value)
length-pqueue_after list (Some Min) = length-first_taken list
length-pqueue_after list None = omega arith

pqueue_operation-unknown : (word : ℕ) → is_known_word kinds.Pqueue word ≡ false
    → pqueue_operation word ≡ None
unfolding is_known_word entry_of entries
pqueue_operation-unknown word unknown =
    let not_insert = not-found (is_operation_of word) words.insert (words.min ∷ []) unknown in
    let not_min = not-found (is_operation_of word) words.min [] not_insert.1 in
    cond-false (is_operation_of word words.insert) _ _ not_insert.0
    ∙ cond-false (is_operation_of word words.min) _ _ not_min.0

-- A word that a priority queue doesn't know changes no list, and gets the reply `BAD`.
pub pqueue_after-unknown : (list : List ℕ) (word : ℕ) → is_known_word kinds.Pqueue word ≡ false
    → pqueue_after list (pqueue_operation word) ≡ (list, BAD)
pqueue_after-unknown list word unknown =
    ap (pqueue_after list) (pqueue_operation-unknown word unknown)
