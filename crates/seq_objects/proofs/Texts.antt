-- The texts of operations and replies are words, and no two operations or replies share one.
use Rattle.std.proofs.Common.{◌≡◌, ℕ, ◌%◌, ◌^◌, ◌<◌, true, eqb, ◌==◌, List, [], ◌∷◌, length, get_or, All, decimal, nat_lt, Some, inl, inr, sym, ap, subst, refl, ◌∙◌, ne_eqb, arith, find, bytes_eq, append-nil}
use Rattle.std.proofs.lemmas.Option.{same_Some}
use Rattle.std.specs.List.{join_with_byte, slice_split, list_all}
use Rattle.std.proofs.lemmas.List.{get_or_default}
use Rattle.std.proofs.lemmas.List.Elements.{All-nil, All-cons, All-append, All-weaker}
use Rattle.list_laws.proofs.Splits.{Lacks, slice_split-join_with_byte}
use Rattle.std.proofs.lemmas.Bool.{cases_Bool, and_parts, eqb-true, eqb-false, ltb-true}
use Rattle.std.proofs.lemmas.Fmt.{decimal_nonempty}
use Rattle.seq_objects.specs.declared.kind.Kind.{Kind}
use Rattle.book_base.specs.OperationWord.{IsOperationWord, low_of, high_of}
use Rattle.seq_objects.specs.declared.entry.Arity.{Arity}
use Rattle.seq_objects.specs.declared.entry.Arity.TheVariants.{Nullary, Unary, Binary}
use Rattle.seq_objects.specs.Words.{kind_name, all_kinds, OperationEntry, entry_of, argument_of, extra_of, argument_words, whole_digits, operation_words, operation_text, Spells, IsPrinted, IsWord}
use Rattle.seq_objects.specs.Replies.{reply_word}
use Rattle.seq_objects.proofs.ReplyTexts.{reply_word-cases, named-plain}
use Rattle.list_laws.proofs.Options.{cases_Option}
use Rattle.list_laws.proofs.Decimals.{decimal_byte}
use Rattle.seq_objects.proofs.Tables.{is_printed, is_plain_name, is_plain_name-entry, kinds-sound, entry_of-inside}
use Rattle.seq_objects.proofs.WholeDigits.{whole_digits-low, whole_digits-both}
use Rattle.seq_objects.proofs.Spelling.{operation_words-known, operation_words-unknown, Spells-once}

-- The digits of a number are printed.
decimal-printed : (n : ℕ) → n < 2 ^ 64 → All IsPrinted (decimal n)
decimal-printed n small k d inside =
    let digit = decimal_byte n k small inside in
    rw (get_or_default (decimal n) k d 0 inside) (omega arith, omega arith)

pub IsWord-decimal : (n : ℕ) → n < 2 ^ 64 → IsWord (decimal n)
IsWord-decimal n small =
    record { some = decimal_nonempty n small; printed = decimal-printed n small }

pub IsWord-marked : (mark n : ℕ) → IsPrinted mark → n < 2 ^ 64 → IsWord (mark ∷ decimal n)
IsWord-marked mark n printed small = record {
  some = omega arith;
  printed = All-cons IsPrinted mark (decimal n) printed (decimal-printed n small);
}

name-printed : (name : List ℕ) → list_all is_printed name ≡ true → All IsPrinted name
name-printed [] all = All-nil IsPrinted
name-printed (x ∷ xs) all =
    let parts = and_parts (is_printed x) (list_all is_printed xs) all in
    let ends = and_parts (nat_lt 32 x) (nat_lt x 127) parts.0 in
    All-cons IsPrinted x xs (ltb-true 32 x ends.0, ltb-true x 127 ends.1) (name-printed xs parts.1)

pub IsWord-name : (name : List ℕ) → is_plain_name name ≡ true → IsWord name
IsWord-name [] plain = cc
IsWord-name (x ∷ xs) plain = record {
  some = omega arith;
  printed = name-printed (x ∷ xs) (and_parts _ (list_all is_printed (x ∷ xs)) plain).1;
}

argument_words-IsWord : (arity : Arity) (word : ℕ) → IsOperationWord word
    → All IsWord (argument_words arity word)
argument_words-IsWord Nullary word small = All-nil IsWord
argument_words-IsWord Unary word small =
    All-cons IsWord (decimal (argument_of word)) []
    (IsWord-decimal (argument_of word) (omega arith)) (All-nil IsWord)
argument_words-IsWord Binary word small =
    All-cons IsWord (decimal (argument_of word)) (decimal (extra_of word) ∷ [])
    (IsWord-decimal (argument_of word) (omega arith)) (All-cons IsWord
    (decimal (extra_of word)) [] (IsWord-decimal (extra_of word) (omega arith)) (All-nil IsWord))

whole_digits-printed : (word : ℕ) → IsOperationWord word → All IsPrinted (whole_digits word)
whole_digits-printed word small =
    let low = decimal-printed (low_of word) (omega arith) in
    let high = decimal-printed (high_of word) (omega arith) in
    elim (cases_Bool (high_of word == 0)) [
      | inl none ↦
          subst (All IsPrinted) (sym (whole_digits-low word (eqb-true (high_of word) 0 none))) low
      | inr some ↦
          subst (All IsPrinted) (sym (whole_digits-both word (eqb-false (high_of word) 0 some)))
          (All-append IsPrinted (decimal (low_of word)) (58 ∷ decimal (high_of word)) low
          (All-cons IsPrinted 58 (decimal (high_of word)) (omega arith, omega arith) high))
    ]

-- The text of an operation is made of words.
pub operation_words-IsWord : (kind : Kind) (word : ℕ) → IsOperationWord word
    → All IsWord (operation_words kind word)
operation_words-IsWord kind word small = elim (cases_Option (entry_of kind word)) [
  | inl none ↦
      let marked : IsWord (35 ∷ whole_digits word) = record {
        some = omega arith;
        printed = All-cons IsPrinted 35 (whole_digits word) (omega arith, omega arith)
            (whole_digits-printed word small);
      } in
      subst (λ ws. All IsWord ws) (sym (operation_words-unknown kind word none))
      (All-cons IsWord (35 ∷ whole_digits word) [] marked (All-nil IsWord))
  | inr known ↦
      let e : OperationEntry = known.0 in
      let name =
      IsWord-name e.name (is_plain_name-entry kind e (entry_of-inside kind word e known.1).0) in
      subst (λ ws. All IsWord ws) (sym (operation_words-known kind word e known.1)) (All-cons IsWord
      e.name (argument_words e.arity word) name (argument_words-IsWord e.arity word small))
]

-- No byte of a word is a space.
pub IsWord-space : (word : List ℕ) → IsWord word → Lacks 32 word
IsWord-space word is k d inside =
    let printed = is.printed k d inside in
    ne_eqb (get_or word k d) 32 (λ same. omega arith)

some_words : (kind : Kind) (word : ℕ)
    → (first : List ℕ) × (rest : List (List ℕ)) × (operation_words kind word ≡ first ∷ rest)
some_words kind word = elim (cases_Option (entry_of kind word)) [
  | inl none ↦ (35 ∷ whole_digits word, [], operation_words-unknown kind word none)
  | inr known ↦ (
    known.0.name,
    argument_words known.0.arity word,
    operation_words-known kind word known.0 known.1,
  )
]

-- The text of an operation is cut into its words at the spaces.
pub slice_split-operation : (kind : Kind) (word : ℕ) → IsOperationWord word
    → slice_split (λ b. eqb b 32) (operation_text kind word) ≡ operation_words kind word
unfolding operation_text
slice_split-operation kind word small =
    let some = some_words kind word in
    subst (λ ws. slice_split (λ b. eqb b 32) (join_with_byte 32 ws) ≡ ws) (sym some.2)
    (slice_split-join_with_byte 32 some.0 some.1 (All-weaker IsWord (Lacks 32) IsWord-space (some.0
    ∷ some.1) (subst (λ ws. All IsWord ws) some.2 (operation_words-IsWord kind word small))))

-- An operation is spelled by the words of its own text.
Spells-own : (kind : Kind) (word other : ℕ) → operation_words kind other ≡ operation_words kind word
    → (used : ℕ) × Spells kind (operation_words kind word) other used
Spells-own kind word other same =
    let some = some_words kind word in (
      length some.1,
      record {
        suffix = [];
        whole = sym same ∙ sym (append-nil (operation_words kind other));
        count = omega (arith, ap length same, ap length some.2);
      },
    )

-- Operations with one text are equal.
pub operation_text-once : (kind : Kind) (a b : ℕ) → IsOperationWord a → IsOperationWord b
    → operation_text kind a ≡ operation_text kind b → a ≡ b
operation_text-once kind a b a_small b_small same =
    let words : operation_words kind a ≡ operation_words kind b =
    sym (slice_split-operation kind a a_small) ∙ ap (slice_split (λ c. eqb c 32)) same
    ∙ slice_split-operation kind b b_small in
    let a_own = Spells-own kind b a words in
    let b_own = Spells-own kind b b refl in
    (Spells-once kind
    (operation_words kind b) a b a_own.0 b_own.0 a_small b_small a_own.1 b_own.1).0

-- The text of a reply is a word.
pub reply_word-IsWord : (reply : ℕ) → reply < 2 ^ 64 → IsWord (reply_word reply)
reply_word-IsWord reply small = elim (reply_word-cases reply) [
  | inl named ↦
      subst IsWord (sym named.3) (IsWord-name named.0.name (named-plain named.0 named.1).0)
  | inr (inl value) ↦ subst IsWord (sym value.1)
      (IsWord-marked 61 (reply % 2 ^ 32) (omega arith, omega arith) (omega arith))
  | inr (inr other) ↦
      subst IsWord (sym other.1) (IsWord-marked 35 reply (omega arith, omega arith) small)
]

-- Kinds with one name are equal.
pub kind_name-once : (a b : Kind) → kind_name a ≡ kind_name b → a ≡ b
kind_name-once a b same =
    let found : Some b ≡ Some a = sym (kinds-sound b).2
    ∙ ap (λ n. find (λ k. bytes_eq (kind_name k) n) all_kinds) (sym same) ∙ (kinds-sound a).2 in
    sym (same_Some b a found)

-- The name of a kind is a word.
pub kind_name-IsWord : (kind : Kind) → IsWord (kind_name kind)
kind_name-IsWord kind = IsWord-name (kind_name kind) (kinds-sound kind).1
