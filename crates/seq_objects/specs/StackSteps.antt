-- A stack: what an operation makes of its list, and the reply.
use Rattle.std.proofs.Common.{◌≡◌, ℕ, ◌+◌, ◌≤◌, false, List, [], ◌∷◌, ◌++◌, length, Option, Some, None, if◌then◌else◌, ap, ◌∙◌, arith}
use Rattle.std.proofs.lemmas.Bool.{cond-false}
use Rattle.book_base.specs.declared.TheConstants.{BAD}
use Rattle.seq_objects.specs.declared.kind.Kind.TheVariants as kinds
use Rattle.seq_objects.specs.declared.stack.StackOperation.{StackOperation}
use Rattle.seq_objects.specs.declared.stack.StackOperation.TheVariants.{Push, Pop}
use Rattle.seq_objects.specs.Words as words
use Rattle.seq_objects.specs.Words.{entries, entry_of, is_operation_of, is_known_word, argument_of}
use Rattle.seq_objects.specs.Replies.{reply_done, reply_bad}
use Rattle.seq_objects.specs.Items.{last_taken, length-push, length-last_taken, not-found}

-- The operation that an operation word stands for, where a stack knows the word.
abbrev pub stack_operation : ℕ → Option StackOperation
stack_operation word =
    if is_operation_of word words.push then Some (Push (argument_of word))
    else if is_operation_of word words.pop then Some Pop
    else None

-- The list of a stack after an operation, and the reply. A push puts its value at the end, and
-- replies `done`; a pop takes the last item out and replies it modulo 2 ^ 32, or replies `none` for
-- an empty list; an unknown operation doesn't change the list, and gets the reply `bad`.
abbrev pub stack_after : List ℕ → Option StackOperation → List ℕ × ℕ
stack_after list (Some (Push value)) = (list ++ value ∷ [], reply_done)
stack_after list (Some Pop) = last_taken list
stack_after list None = (list, reply_bad)

-- An operation of a stack makes its list longer by at most one item.
pub length-stack_after : (list : List ℕ) (operation : Option StackOperation)
    → length (stack_after list operation).0 ≤ length list + 1
length-stack_after list (Some (Push value)) = length-push list value
length-stack_after list (Some Pop) = length-last_taken list
length-stack_after list None = omega arith

stack_operation-unknown : (word : ℕ) → is_known_word kinds.Stack word ≡ false
    → stack_operation word ≡ None
unfolding is_known_word entry_of entries
stack_operation-unknown word unknown =
    let not_push = not-found (is_operation_of word) words.push (words.pop ∷ []) unknown in
    let not_pop = not-found (is_operation_of word) words.pop [] not_push.1 in
    cond-false (is_operation_of word words.push) _ _ not_push.0
    ∙ cond-false (is_operation_of word words.pop) _ _ not_pop.0

-- A word that a stack doesn't know changes no list, and gets the reply `BAD`.
pub stack_after-unknown : (list : List ℕ) (word : ℕ) → is_known_word kinds.Stack word ≡ false
    → stack_after list (stack_operation word) ≡ (list, BAD)
stack_after-unknown list word unknown = ap (stack_after list) (stack_operation-unknown word unknown)
