-- A register: what an operation makes of its list, and the reply.
use Rattle.std.proofs.Common.{◌≡◌, ℕ, ◌+◌, ◌≤◌, true, false, List, [], ◌∷◌, length, Option, Some, None, if◌then◌else◌, ap, ◌∙◌, arith}
use Rattle.std.proofs.lemmas.Bool.{cond-true, cond-false}
use Rattle.book_base.specs.declared.TheConstants.{BAD}
use Rattle.seq_objects.specs.declared.kind.Kind.TheVariants as kinds
use Rattle.seq_objects.specs.declared.register.RegisterOperation.{RegisterOperation}
use Rattle.seq_objects.specs.declared.register.RegisterOperation.TheVariants.{Write, Read}
use Rattle.seq_objects.specs.Words as words
use Rattle.seq_objects.specs.Words.{entries, entry_of, is_operation_of, is_known_word, argument_of}
use Rattle.seq_objects.specs.Replies.{reply_done, reply_value, reply_bad}
use Rattle.seq_objects.specs.Items.{first_or_zero, not-found}

-- The operation that an operation word stands for, where a register knows the word.
abbrev pub register_operation : ℕ → Option RegisterOperation
register_operation word =
    if is_operation_of word words.write then Some (Write (argument_of word))
    else if is_operation_of word words.read then Some Read
    else None

-- The list of a register after an operation, and the reply. A write makes its value the only item
-- of the list, and replies `done`; a read replies the first item modulo 2 ^ 32, or 0 for an empty
-- list; an unknown operation gets the reply `bad`. A read and an unknown operation don't change
-- the list.
abbrev pub register_after : List ℕ → Option RegisterOperation → List ℕ × ℕ
register_after list (Some (Write value)) = (value ∷ [], reply_done)
register_after list (Some Read) = (list, reply_value (first_or_zero list))
register_after list None = (list, reply_bad)

-- An operation of a register makes its list longer by at most one item.
pub length-register_after : (list : List ℕ) (operation : Option RegisterOperation)
    → length (register_after list operation).0 ≤ length list + 1
length-register_after list (Some (Write value)) = omega arith
length-register_after list (Some Read) = omega arith
length-register_after list None = omega arith

register_operation-unknown : (word : ℕ) → is_known_word kinds.Register word ≡ false
    → register_operation word ≡ None
unfolding is_known_word entry_of entries
register_operation-unknown word unknown =
    let not_write = not-found (is_operation_of word) words.write (words.read ∷ []) unknown in
    let not_read = not-found (is_operation_of word) words.read [] not_write.1 in
    cond-false (is_operation_of word words.write) _ _ not_write.0
    ∙ cond-false (is_operation_of word words.read) _ _ not_read.0

-- A word that a register doesn't know changes no list, and gets the reply `BAD`.
pub register_after-unknown : (list : List ℕ) (word : ℕ) → is_known_word kinds.Register word ≡ false
    → register_after list (register_operation word) ≡ (list, BAD)
register_after-unknown list word unknown =
    ap (register_after list) (register_operation-unknown word unknown)

-- The word of a write makes its argument the only item of a register's list, and gets the reply
-- `done`.
pub register_after-write : (list : List ℕ) (word : ℕ) → is_operation_of word words.write ≡ true
    → register_after list (register_operation word) ≡ (argument_of word ∷ [], reply_done)
register_after-write list word write =
    ap (register_after list) (cond-true (is_operation_of word words.write) _ _ write)

-- The word of a read changes no list of a register, and gets the first item modulo 2 ^ 32 as its
-- reply, or 0 for an empty list.
pub register_after-read : (list : List ℕ) (word : ℕ) → is_operation_of word words.write ≡ false
    → is_operation_of word words.read ≡ true
    → register_after list (register_operation word) ≡ (list, reply_value (first_or_zero list))
register_after-read list word not_write read =
    ap (register_after list)
    (cond-false (is_operation_of word words.write) _ _ not_write
    ∙ cond-true (is_operation_of word words.read) _ _ read)

-- A word that is neither a write nor a read changes no list of a register, and gets the reply
-- `BAD`.
pub register_after-other : (list : List ℕ) (word : ℕ) → is_operation_of word words.write ≡ false
    → is_operation_of word words.read ≡ false
    → register_after list (register_operation word) ≡ (list, BAD)
register_after-other list word not_write not_read =
    ap (register_after list)
    (cond-false (is_operation_of word words.write) _ _ not_write
    ∙ cond-false (is_operation_of word words.read) _ _ not_read)
