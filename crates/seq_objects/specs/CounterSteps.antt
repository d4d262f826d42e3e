-- A counter: what an operation makes of its list, and the reply.
use Rattle.std.proofs.Common.{◌≡◌, ℕ, ◌+◌, ◌%◌, ◌^◌, ◌≤◌, true, false, List, [], ◌∷◌, length, Option, Some, None, if◌then◌else◌, ap, arith}
use Rattle.std.proofs.lemmas.Bool.{cond-true, cond-false}
use Rattle.book_base.specs.declared.TheConstants.{BAD}
use Rattle.seq_objects.specs.declared.kind.Kind.TheVariants as kinds
use Rattle.seq_objects.specs.declared.counter.CounterOperation.{CounterOperation}
use Rattle.seq_objects.specs.declared.counter.CounterOperation.TheVariants.{Increment}
use Rattle.seq_objects.specs.Words as words
use Rattle.seq_objects.specs.Words.{entries, entry_of, is_operation_of, is_known_word}
use Rattle.seq_objects.specs.Replies.{reply_value, reply_bad}
use Rattle.seq_objects.specs.Items.{first_or_zero, not-found}

-- The operation that an operation word stands for, where a counter knows the word.
abbrev pub counter_operation : ℕ → Option CounterOperation
counter_operation word = if is_operation_of word words.inc then Some Increment else None

-- The list of a counter after an operation, and the reply. The count is the first item, or 0 for an
-- empty list. An increment makes the count plus 1, modulo 2 ^ 32, the only item, and replies the
-- count before it, modulo 2 ^ 32; an unknown operation doesn't change the list, and gets the reply
-- `bad`.
abbrev pub counter_after : List ℕ → Option CounterOperation → List ℕ × ℕ
counter_after list (Some Increment) =
    ((first_or_zero list + 1) % 2 ^ 32 ∷ [], reply_value (first_or_zero list))
counter_after list None = (list, reply_bad)

-- An operation of a counter makes its list longer by at most one item.
pub length-counter_after : (list : List ℕ) (operation : Option CounterOperation)
    → length (counter_after list operation).0 ≤ length list + 1
length-counter_after list (Some Increment) = omega arith
length-counter_after list None = omega arith

counter_operation-unknown : (word : ℕ) → is_known_word kinds.Counter word ≡ false
    → counter_operation word ≡ None
unfolding is_known_word entry_of entries
counter_operation-unknown word unknown =
    let not_inc = not-found (is_operation_of word) words.inc [] unknown in
    cond-false (is_operation_of word words.inc) _ _ not_inc.0

-- A word that a counter doesn't know changes no list, and gets the reply `BAD`.
pub counter_after-unknown : (list : List ℕ) (word : ℕ) → is_known_word kinds.Counter word ≡ false
    → counter_after list (counter_operation word) ≡ (list, BAD)
counter_after-unknown list word unknown =
    ap (counter_after list) (counter_operation-unknown word unknown)

-- The word of an increment makes the count plus 1, modulo 2 ^ 32, the only item of a counter's
-- list, and gets the count before it, modulo 2 ^ 32, as its reply. The count is the first item, or
-- 0 for an empty list.
pub counter_after-inc : (list : List ℕ) (word : ℕ) → is_operation_of word words.inc ≡ true
    → counter_after list (counter_operation word)
    ≡ ((first_or_zero list + 1) % 2 ^ 32 ∷ [], reply_value (first_or_zero list))
counter_after-inc list word inc =
    ap (counter_after list) (cond-true (is_operation_of word words.inc) _ _ inc)

-- A word that isn't the word of an increment changes no list of a counter, and gets the reply
-- `BAD`.
pub counter_after-other : (list : List ℕ) (word : ℕ) → is_operation_of word words.inc ≡ false
    → counter_after list (counter_operation word) ≡ (list, BAD)
counter_after-other list word not_inc =
    ap (counter_after list) (cond-false (is_operation_of word words.inc) _ _ not_inc)
