-- A register with compare-and-set: what an operation makes of its list, and the reply.
use Rattle.std.proofs.Common.{◌≡◌, ℕ, ◌+◌, ◌%◌, ◌^◌, ◌≤◌, ◌==◌, false, List, [], ◌∷◌, length, Option, Some, None, if◌then◌else◌, ap, ◌∙◌, arith}
use Rattle.std.proofs.lemmas.Bool.{cond-false, cond_both}
use Rattle.book_base.specs.declared.TheConstants.{BAD}
use Rattle.seq_objects.specs.declared.kind.Kind.TheVariants as kinds
use Rattle.seq_objects.specs.declared.cas_register.CasRegisterOperation.{CasRegisterOperation}
use Rattle.seq_objects.specs.declared.cas_register.CasRegisterOperation.TheVariants.{Write, Read, CompareAndSet}
use Rattle.seq_objects.specs.Words as words
use Rattle.seq_objects.specs.Words.{entries, entry_of, is_operation_of, is_known_word, argument_of, extra_of}
use Rattle.seq_objects.specs.Replies.{reply_done, reply_value, reply_no, reply_yes, reply_bad}
use Rattle.seq_objects.specs.Items.{first_or_zero, not-found}

-- The list and the reply of a compare-and-set from `expected` to `new`. Where the first item of the
-- list, modulo 2 ^ 32, is `expected`, the list of `new` alone and the reply `yes`; else the list
-- unchanged and the reply `no`. The first item of an empty list counts as 0.
abbrev pub compared_and_set : List ℕ → ℕ → ℕ → List ℕ × ℕ
compared_and_set list expected new =
    if first_or_zero list % 2 ^ 32 == expected then (new ∷ [], reply_yes) else (list, reply_no)

-- The operation that an operation word stands for, where a register with compare-and-set knows the
-- word.
abbrev pub cas_register_operation : ℕ → Option CasRegisterOperation
cas_register_operation word =
    if is_operation_of word words.write then Some (Write (argument_of word))
    else if is_operation_of word words.read then Some Read
    else if is_operation_of word words.cas
    then Some (CompareAndSet (argument_of word) (extra_of word))
    else None

-- The list of a register with compare-and-set after an operation, and the reply. A write makes its
-- value the only item of the list, and replies `done`; a read replies the first item modulo 2 ^ 32,
-- or 0 for an empty list; a compare-and-set is made as `compared_and_set` says; an unknown
-- operation gets the reply `bad`. A read and an unknown operation don't change the list.
abbrev pub cas_register_after : List ℕ → Option CasRegisterOperation → List ℕ × ℕ
cas_register_after list (Some (Write value)) = (value ∷ [], reply_done)
cas_register_after list (Some Read) = (list, reply_value (first_or_zero list))
cas_register_after list (Some (CompareAndSet expected new)) = compared_and_set list expected new
cas_register_after list None = (list, reply_bad)

length-compared_and_set : (list : List ℕ) (expected new : ℕ)
    → length (compared_and_set list expected new).0 ≤ length list + 1
length-compared_and_set list expected new =
    let IsSmall : List ℕ × ℕ → Type 0 = λ next. length next.0 ≤ length list + 1 in
    cond_both (first_or_zero list % 2 ^ 32 == expected) (new ∷ [], reply_yes)
    (list, reply_no) IsSmall
    (λ same. omega arith)
    (λ other. omega arith)

-- An operation of a register with compare-and-set makes its list longer by at most one item.
pub length-cas_register_after : (list : List ℕ) (operation : Option CasRegisterOperation)
    → length (cas_register_after list operation).0 ≤ length list + 1
length-cas_register_after list (Some (Write value)) = omega arith
length-cas_register_after list (Some Read) = omega arith
length-cas_register_after list (Some (CompareAndSet expected new)) =
    length-compared_and_set list expected new
length-cas_register_after list None = omega arith

cas_register_operation-unknown : (word : ℕ) → is_known_word kinds.CasRegister word ≡ false
    → cas_register_operation word ≡ None
unfolding is_known_word entry_of entries
cas_register_operation-unknown word unknown =
    let not_write =
    not-found (is_operation_of word) words.write (words.read ∷ words.cas ∷ []) unknown in
    let not_read = not-found (is_operation_of word) words.read (words.cas ∷ []) not_write.1 in
    let not_cas = not-found (is_operation_of word) words.cas [] not_read.1 in
    cond-false (is_operation_of word words.write) _ _ not_write.0
    ∙ cond-false (is_operation_of word words.read) _ _ not_read.0
    ∙ cond-false (is_operation_of word words.cas) _ _ not_cas.0

-- A word that a register with compare-and-set doesn't know changes no list, and gets the reply
-- `BAD`.
pub cas_register_after-unknown : (list : List ℕ) (word : ℕ)
    → is_known_word kinds.CasRegister word ≡ false
    → cas_register_after list (cas_register_operation word) ≡ (list, BAD)
cas_register_after-unknown list word unknown =
    ap (cas_register_after list) (cas_register_operation-unknown word unknown)
