-- A set of numbers: what an operation makes of its list, and the reply.
use Rattle.std.proofs.Common.{◌≡◌, ℕ, ◌+◌, ◌≤◌, false, List, [], ◌∷◌, length, remove, Option, Some, None, is_some, if◌then◌else◌, ap, ◌∙◌, arith}
use Rattle.std.proofs.lemmas.Bool.{cond-false, cond_both}
use Rattle.book_base.specs.declared.TheConstants.{BAD}
use Rattle.seq_objects.specs.declared.kind.Kind.TheVariants as kinds
use Rattle.seq_objects.specs.declared.int_set.IntSetOperation.{IntSetOperation}
use Rattle.seq_objects.specs.declared.int_set.IntSetOperation.TheVariants.{Add, Remove, Has}
use Rattle.seq_objects.specs.Words as words
use Rattle.seq_objects.specs.Words.{entries, entry_of, is_operation_of, is_known_word, argument_of}
use Rattle.seq_objects.specs.Replies.{reply_no, reply_yes, reply_bad}
use Rattle.seq_objects.specs.Items.{place_of, inserted, length-inserted, length-without, not-found}

-- The list of a set after an addition of `value`, and the reply: where the list lacks the value,
-- the list with it and `yes`; else the list unchanged and `no`.
abbrev pub added : List ℕ → ℕ → List ℕ × ℕ
added list value =
    if is_some (place_of list value) then (list, reply_no) else (inserted list value, reply_yes)

-- The list without the item at a place, and the reply `yes`; where no place is given, the list
-- unchanged and the reply `no`.
abbrev pub taken_out : List ℕ → Option ℕ → List ℕ × ℕ
taken_out list (Some place) = (remove list place, reply_yes)
taken_out list None = (list, reply_no)

-- The list of a set after a removal of `value`, and the reply: the list without the value at its
-- first place and `yes`; where the list lacks the value, the list unchanged and `no`.
abbrev pub removed : List ℕ → ℕ → List ℕ × ℕ
removed list value = taken_out list (place_of list value)

-- The operation that an operation word stands for, where a set knows the word.
abbrev pub set_operation : ℕ → Option IntSetOperation
set_operation word =
    if is_operation_of word words.add then Some (Add (argument_of word))
    else if is_operation_of word words.remove then Some (Remove (argument_of word))
    else if is_operation_of word words.has then Some (Has (argument_of word))
    else None

-- The list of a set after an operation, and the reply. An addition and a removal are made as
-- `added` and `removed` say; a test replies `yes` where the list has the value, else `no`; an
-- unknown operation gets the reply `bad`. A test and an unknown operation don't change the list.
abbrev pub set_after : List ℕ → Option IntSetOperation → List ℕ × ℕ
set_after list (Some (Add value)) = added list value
set_after list (Some (Remove value)) = removed list value
set_after list (Some (Has value)) =
    (list, if is_some (place_of list value) then reply_yes else reply_no)
set_after list None = (list, reply_bad)

length-added : (list : List ℕ) (value : ℕ) → length (added list value).0 ≤ length list + 1
length-added list value =
    let IsSmall : List ℕ × ℕ → Type 0 = λ next. length next.0 ≤ length list + 1 in
    cond_both (is_some (place_of list value)) (list, reply_no)
    (inserted list value, reply_yes) IsSmall
    (λ there. omega arith)
    (λ absent. omega (arith, length-inserted list value))

length-removed : (list : List ℕ) (value : ℕ) → length (removed list value).0 ≤ length list + 1
length-removed list value = elim (place_of list value) as
    (λ place. length (taken_out list place).0 ≤ length list + 1)
    [ None ↦ omega arith | Some place ↦ length-without list place ]

-- An operation of a set makes its list longer by at most one item.
pub length-set_after : (list : List ℕ) (operation : Option IntSetOperation)
    → length (set_after list operation).0 ≤ length list + 1
length-set_after list (Some (Add value)) = length-added list value
length-set_after list (Some (Remove value)) = length-removed list value
length-set_after list (Some (Has value)) = omega arith
length-set_after list None = omega arith

set_operation-unknown : (word : ℕ) → is_known_word kinds.IntSet word ≡ false
    → set_operation word ≡ None
unfolding is_known_word entry_of entries
set_operation-unknown word unknown =
    let not_add =
    not-found (is_operation_of word) words.add (words.remove ∷ words.has ∷ []) unknown in
    let not_remove = not-found (is_operation_of word) words.remove (words.has ∷ []) not_add.1 in
    let not_has = not-found (is_operation_of word) words.has [] not_remove.1 in
    cond-false (is_operation_of word words.add) _ _ not_add.0
    ∙ cond-false (is_operation_of word words.remove) _ _ not_remove.0
    ∙ cond-false (is_operation_of word words.has) _ _ not_has.0

-- A word that a set doesn't know changes no list, and gets the reply `BAD`.
pub set_after-unknown : (list : List ℕ) (word : ℕ) → is_known_word kinds.IntSet word ≡ false
    → set_after list (set_operation word) ≡ (list, BAD)
set_after-unknown list word unknown = ap (set_after list) (set_operation-unknown word unknown)
