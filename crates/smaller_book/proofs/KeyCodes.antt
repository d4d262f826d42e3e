-- The operations of containers by their codes.
use Rattle.std.proofs.Common.{◌≡◌, ℕ, ◌∙◌, Bool, true, false, ◌==◌, [], ◌∷◌, find, Option, Some, None, is_some, if◌then◌else◌, refl, sym, ap, inl, inr}
use Rattle.std.proofs.lemmas.Bool.{cases_Bool, cond-false, true≢false, and_parts, eqb-true, eq-eqb}
use Rattle.seq_objects.specs.declared.kind.Kind.TheVariants as kinds
use Rattle.seq_objects.specs.Words as words
use Rattle.seq_objects.specs.Words.{OperationEntry, entries, entry_of, is_known_word, is_operation_of, code_of, has_arguments, argument_of}
use Rattle.smaller_book.specs.Keys.{value_shown, value_moved, key_by_kind}

-- An operation word of an entry has the code of this entry.
has_code : (word : ℕ) (entry : OperationEntry) → is_operation_of word entry ≡ true
    → code_of word ≡ entry.code
has_code word entry is = eqb-true (code_of word) entry.code
    (and_parts (code_of word == entry.code) (has_arguments entry.arity word) is).0

-- Where a word is of one of two entries with the codes 1 and 2, its code is 1 exactly where it is
-- of the first one.
of_two : (word : ℕ) (put taking : OperationEntry) → put.code ≡ 1 → taking.code ≡ 2
    → is_some (find (is_operation_of word) (put ∷ taking ∷ [])) ≡ true
    → (code_of word == 1) ≡ is_operation_of word put
of_two word put taking one two known = elim (cases_Bool (is_operation_of word put)) [
  | inl puts ↦ eq-eqb (code_of word) 1 (has_code word put puts ∙ one) ∙ sym puts
  | inr not_put ↦ elim (cases_Bool (is_operation_of word taking)) [
    | inl takes ↦
        let code : code_of word ≡ 2 = has_code word taking takes ∙ two in
        ap (λ (n : ℕ). n == 1) code ∙ sym not_put
    | inr not_taking ↦
        let none : is_some (find (is_operation_of word) (put ∷ taking ∷ [])) ≡ false
        = ap is_some
        (cond-false (is_operation_of word put) (Some put)
        (find (is_operation_of word) (taking ∷ [])) not_put
        ∙ cond-false (is_operation_of word taking) (Some taking) None not_taking) in
        absurd (true≢false (sym known ∙ none))
  ]
]

-- Where a word has the code 1 exactly if it is an operation of an entry of puts, the value that it
-- moves by the code is the one that it moves by the entry.
moved_by_code : (word : ℕ) (reply : Option ℕ) (put : OperationEntry)
    → (code_of word == 1) ≡ is_operation_of word put
    → (if code_of word == 1 then Some (argument_of word) else value_shown reply)
    ≡ value_moved put word reply
moved_by_code word reply put same =
    ap (λ (b : Bool). if b then Some (argument_of word) else value_shown reply) same

-- The key of a word that a queue knows, with its reply, can be read by the word's code.
pub queue_by_code : (word : ℕ) (reply : Option ℕ) → is_known_word kinds.Queue word ≡ true
    → (if code_of word == 1 then Some (argument_of word) else value_shown reply)
    ≡ key_by_kind kinds.Queue word reply
unfolding is_known_word entry_of entries
queue_by_code word reply known =
    moved_by_code word reply words.enq (of_two word words.enq words.deq refl refl known)

-- The key of a word that a stack knows, with its reply, can be read by the word's code.
pub stack_by_code : (word : ℕ) (reply : Option ℕ) → is_known_word kinds.Stack word ≡ true
    → (if code_of word == 1 then Some (argument_of word) else value_shown reply)
    ≡ key_by_kind kinds.Stack word reply
unfolding is_known_word entry_of entries
stack_by_code word reply known =
    moved_by_code word reply words.push (of_two word words.push words.pop refl refl known)

-- The key of a word that a register knows, with its reply, can be read by the word's code.
pub register_by_code : (word : ℕ) (reply : Option ℕ) → is_known_word kinds.Register word ≡ true
    → (if code_of word == 1 then Some (argument_of word) else value_shown reply)
    ≡ key_by_kind kinds.Register word reply
unfolding is_known_word entry_of entries
register_by_code word reply known =
    moved_by_code word reply words.write (of_two word words.write words.read refl refl known)

-- The key of a word that a priority queue knows, with its reply, can be read by the word's code.
pub pqueue_by_code : (word : ℕ) (reply : Option ℕ) → is_known_word kinds.Pqueue word ≡ true
    → (if code_of word == 1 then Some (argument_of word) else value_shown reply)
    ≡ key_by_kind kinds.Pqueue word reply
unfolding is_known_word entry_of entries
pqueue_by_code word reply known =
    moved_by_code word reply words.insert (of_two word words.insert words.min refl refl known)
