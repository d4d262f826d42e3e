-- A whole operation word in digits: no two words have the same digits, and each byte is printed.
use Rattle.std.proofs.Common.{◌≡◌, ◌≢◌, ℕ, ◌<◌, ◌^◌, ◌==◌, ◌++◌, List, [], ◌∷◌, append-nil, decimal, inl, inr, sym, subst, ◌∙◌, arith}
use Rattle.std.proofs.lemmas.Bool.{cases_Bool, cond-true, cond-false, eqb-true, eqb-false, eq-eqb, ne_eqb}
use Rattle.std.proofs.lemmas.Fmt.{decimal_injective}
use Rattle.book_base.specs.OperationWord.{IsOperationWord, low_of, high_of}
use Rattle.seq_objects.specs.Words.{whole_digits}
use Rattle.list_laws.proofs.Splits.{Lacks}
use Rattle.list_laws.proofs.FirstMarks.{first_mark-once, not-Lacks-marked, decimal-Lacks}

-- The digits of a number have no colon.
pub decimal-no_colon : (n : ℕ) → n < 2 ^ 64 → Lacks 58 (decimal n)
decimal-no_colon n small = decimal-Lacks 58 n small (λ digit. omega arith)

-- An operation word without a high word is written as its low word in digits.
pub whole_digits-low : (word : ℕ) → high_of word ≡ 0 → whole_digits word ≡ decimal (low_of word)
whole_digits-low word none =
    cond-true (high_of word == 0) (decimal (low_of word))
    (decimal (low_of word) ++ 58 ∷ decimal (high_of word)) (eq-eqb (high_of word) 0 none)

-- An operation word with a high word is written as its low word, a colon, and its high word.
pub whole_digits-both : (word : ℕ) → high_of word ≢ 0
    → whole_digits word ≡ decimal (low_of word) ++ 58 ∷ decimal (high_of word)
whole_digits-both word some =
    cond-false (high_of word == 0) (decimal (low_of word))
    (decimal (low_of word) ++ 58 ∷ decimal (high_of word)) (ne_eqb (high_of word) 0 some)

-- Digits without a colon are those of an operation word without a high word.
pub whole_digits-no_colon : (word : ℕ) (digits : List ℕ) → IsOperationWord word → Lacks 58 digits
    → whole_digits word ≡ digits → (high_of word ≡ 0) × (decimal (low_of word) ≡ digits)
whole_digits-no_colon word digits small lacks same = elim (cases_Bool (high_of word == 0)) [
  | inl none ↦
      let zero : high_of word ≡ 0 = eqb-true (high_of word) 0 none in
      (zero, sym (whole_digits-low word zero) ∙ same)
  | inr some ↦
      let whole = whole_digits-both word (eqb-false (high_of word) 0 some) in
      absurd (not-Lacks-marked 58 (decimal (low_of word)) (decimal (high_of word))
      (subst (Lacks 58) (sym same ∙ whole) lacks))
]

-- Digits with a colon are those of an operation word with a high word, which follows the first
-- colon.
pub whole_digits-colon : (word : ℕ) (before suffix : List ℕ) → IsOperationWord word
    → Lacks 58 before → whole_digits word ≡ before ++ 58 ∷ suffix
    → (high_of word ≢ 0) × (decimal (low_of word) ≡ before) × (decimal (high_of word) ≡ suffix)
whole_digits-colon word before suffix small lacks same = elim (cases_Bool (high_of word == 0)) [
  | inl none ↦
      let whole = whole_digits-low word (eqb-true (high_of word) 0 none) in
      absurd (not-Lacks-marked 58 before suffix
      (subst (Lacks 58) (sym whole ∙ same) (decimal-no_colon (low_of word) (omega arith))))
  | inr some ↦
      let high : high_of word ≢ 0 = eqb-false (high_of word) 0 some in
      let parts = first_mark-once 58 (decimal (low_of word)) before (decimal (high_of word)) suffix
      (decimal-no_colon (low_of word) (omega arith)) lacks
      (sym (whole_digits-both word high) ∙ same) in
      (high, parts.0, parts.1)
]

-- Operation words with the same digits are equal.
pub whole_digits-once : (a b : ℕ) → IsOperationWord a → IsOperationWord b
    → whole_digits a ≡ whole_digits b → a ≡ b
whole_digits-once a b a_small b_small same = elim (cases_Bool (high_of b == 0)) [
  | inl none ↦
      let zero : high_of b ≡ 0 = eqb-true (high_of b) 0 none in
      let parts = whole_digits-no_colon a (decimal (low_of b)) a_small
      (decimal-no_colon (low_of b) (omega arith)) (same ∙ whole_digits-low b zero) in
      let lows : low_of a ≡ low_of b =
      decimal_injective (low_of a) (low_of b) (omega arith) (omega arith) parts.1 in
      omega arith
  | inr some ↦
      let high : high_of b ≢ 0 = eqb-false (high_of b) 0 some in
      let parts = whole_digits-colon a (decimal (low_of b)) (decimal (high_of b)) a_small
      (decimal-no_colon (low_of b) (omega arith)) (same ∙ whole_digits-both b high) in
      let lows : low_of a ≡ low_of b =
      decimal_injective (low_of a) (low_of b) (omega arith) (omega arith) parts.1 in
      let highs : high_of a ≡ high_of b =
      decimal_injective (high_of a) (high_of b) (omega arith) (omega arith) parts.2 in
      omega arith
]

-- An operation word in digits begins with the digits of its low word.
pub whole_digits-begins : (word : ℕ)
    → (rest : List ℕ) × (whole_digits word ≡ decimal (low_of word) ++ rest)
whole_digits-begins word = elim (cases_Bool (high_of word == 0)) [
  | inl none ↦ (
    [],
    whole_digits-low word (eqb-true (high_of word) 0 none)
        ∙ sym (append-nil (decimal (low_of word))),
  )
  | inr some ↦
      (58 ∷ decimal (high_of word), whole_digits-both word (eqb-false (high_of word) 0 some))
]
