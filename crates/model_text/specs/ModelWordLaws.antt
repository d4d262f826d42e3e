-- The words of a model's operations in texts: at most three, none with a space or a line feed,
-- and no operation's words begin those of another.
use Rattle.std.proofs.Common.{◌≡◌, ℕ, ◌-◌, ◌<◌, ◌≤◌, ◌^◌, ◌∙◌, true, false, List, [], ◌∷◌, ◌++◌, length, get_or, decimal, None, sym, ap, subst, inl, inr, arith}
use Rattle.std.specs.Prelude.{IsTrue, nat_lt, codes, ◌==◌}
use Rattle.std.proofs.lemmas.Bool.{cond-true, cond-false, cases_Bool, and_parts, both_ways, eqb-true}
use Rattle.std.proofs.lemmas.Bool.Decides.{nat_tests}
use Rattle.seq_objects.specs.declared.kind.Kind.TheVariants.{Counter}
use Rattle.seq_objects.specs.declared.entry.Arity.TheVariants.{Nullary}
use Rattle.seq_objects.specs.Words.{entries, entry_of, inc, code_of, argument_of, extra_of, has_arguments, is_operation_of, operation_words}
use Rattle.seq_objects.proofs.Spelling.{operation_words-unknown}
use Rattle.text_fields.specs.declared.version.Version.TheVariants.{Second}
use Rattle.text_fields.specs.Lines.{AreSolid}
use Rattle.text_fields.specs.OperationLaws.{one_kind_operation, solid_kind_words, few_kind_words}
use Rattle.text_fields.proofs.NumberTexts.{same_first, same_number, solid_decimal}
use Rattle.text_fields.proofs.HeadTexts.{plain}
use Rattle.model_text.specs.ModelWords.{is_numbered, other_word, model_words}

-- the operations that have a number are those from 2^32 on, 2^32 of them
pub numbered_small : (op : ℕ) → is_numbered op ≡ true → op < 2 ^ 33
numbered_small op h = grind (arith, nat_tests)

pub numbered_least : (op : ℕ) → is_numbered op ≡ true → 2 ^ 32 ≤ op
numbered_least op h = grind (arith, nat_tests)

-- a counter doesn't know an operation that has no number
counter_unknown : (op : ℕ) → is_numbered op ≡ false → entry_of Counter op ≡ None
unfolding entry_of entries
counter_unknown op nothing = elim (cases_Bool (is_operation_of op inc)) [
  | inl known ↦
      let parts = and_parts (code_of op == 1) (has_arguments Nullary op) known in
      let arguments = and_parts (argument_of op == 0) (extra_of op == 0) parts.1 in
      let code : code_of op ≡ 1 = eqb-true (code_of op) 1 parts.0 in
      let argument : argument_of op ≡ 0 = eqb-true (argument_of op) 0 arguments.0 in
      let extra : extra_of op ≡ 0 = eqb-true (extra_of op) 0 arguments.1 in
      let is : op ≡ 2 ^ 32 = omega arith in
      absurd (both_ways (is_numbered op) nothing (ap is_numbered is))
  | inr unknown ↦ cond-false (is_operation_of op inc) _ _ unknown
]

-- the words of an operation that has a number are 'op' and the number
pub words-numbered : (op : ℕ) → is_numbered op ≡ true
    → model_words op ≡ codes "op" ∷ decimal (op - 2 ^ 32) ∷ []
unfolding model_words
words-numbered op numbered = cond-true (is_numbered op) _ _ numbered

-- the one word of an operation that has no number is '#' and the whole operation word in digits
pub words-other : (op : ℕ) → is_numbered op ≡ false → model_words op ≡ other_word op ∷ []
unfolding model_words
words-other op nothing = cond-false (is_numbered op) _ _ nothing

-- a counter has one word for an operation that has no number: '#' and the whole operation word in
-- digits
pub counter_words : (op : ℕ) → is_numbered op ≡ false → operation_words Counter op ≡ other_word op ∷ []
counter_words op nothing = operation_words-unknown Counter op (counter_unknown op nothing)

-- an operation that has no number has the words that a counter has for it
pub as_counter : (op : ℕ) → is_numbered op ≡ false → model_words op ≡ operation_words Counter op
as_counter op nothing = words-other op nothing ∙ sym (counter_words op nothing)

-- the one word of an operation that has no number isn't 'op'
pub not_other : (op : ℕ) (x y : List (List ℕ)) → codes "op" ∷ x ≡ other_word op ∷ y → ⊥
not_other op x y e =
    let first : codes "op" ≡ other_word op =
    (same_first (codes "op") (other_word op) x y e).0 in
    absurd (omega (arith, ap (λ (word : List ℕ). get_or word 0 0) first))

-- where the words of two operations begin the same list of words, they are one operation
pub one_model_operation : (a b : ℕ) (x y : List (List ℕ)) → IsTrue (nat_lt a (2 ^ 128))
    → IsTrue (nat_lt b (2 ^ 128)) → model_words a ++ x ≡ model_words b ++ y → a ≡ b
one_model_operation a b x y h k e = elim (cases_Bool (is_numbered a)) [
  | inl ja ↦ elim (cases_Bool (is_numbered b)) [
    | inl jb ↦
        let whole : codes "op" ∷ decimal (a - 2 ^ 32) ∷ x
        ≡ codes "op" ∷ decimal (b - 2 ^ 32) ∷ y =
        ap (λ (w : List (List ℕ)). w ++ x) (sym (words-numbered a ja))
        ∙ (e ∙ ap (λ (w : List (List ℕ)). w ++ y) (words-numbered b jb)) in
        let suffix = (same_first (codes "op") (codes "op") (decimal (a - 2 ^ 32) ∷ x)
        (decimal (b - 2 ^ 32) ∷ y) whole).1 in
        let number = (same_first (decimal (a - 2 ^ 32)) (decimal (b - 2 ^ 32)) x y suffix).0 in
        let low : a - 2 ^ 32 < 2 ^ 64 = omega (arith, numbered_small a ja) in
        let other : b - 2 ^ 32 < 2 ^ 64 = omega (arith, numbered_small b jb) in
        let same : a - 2 ^ 32 ≡ b - 2 ^ 32 =
        same_number (a - 2 ^ 32) (b - 2 ^ 32) low other number in
        omega (arith, numbered_least a ja, numbered_least b jb)
    | inr nb ↦
        let whole : codes "op" ∷ decimal (a - 2 ^ 32) ∷ x ≡ other_word b ∷ y =
        ap (λ (w : List (List ℕ)). w ++ x) (sym (words-numbered a ja))
        ∙ (e ∙ ap (λ (w : List (List ℕ)). w ++ y) (words-other b nb)) in
        absurd (not_other b (decimal (a - 2 ^ 32) ∷ x) y whole)
  ]
  | inr na ↦ elim (cases_Bool (is_numbered b)) [
    | inl jb ↦
        let whole : codes "op" ∷ decimal (b - 2 ^ 32) ∷ y ≡ other_word a ∷ x =
        ap (λ (w : List (List ℕ)). w ++ y) (sym (words-numbered b jb))
        ∙ (sym e ∙ ap (λ (w : List (List ℕ)). w ++ x) (words-other a na)) in
        absurd (not_other a (decimal (b - 2 ^ 32) ∷ y) x whole)
    | inr nb ↦
        one_kind_operation Second Counter a b x y h k
        (ap (λ (w : List (List ℕ)). w ++ x) (sym (as_counter a na))
        ∙ (e ∙ ap (λ (w : List (List ℕ)). w ++ y) (as_counter b nb)))
  ]
]

-- an operation has at least one word, and no word of it has a space or a line feed
pub solid_model_words : (op : ℕ) → IsTrue (nat_lt op (2 ^ 128)) → AreSolid (model_words op)
solid_model_words op h = elim (cases_Bool (is_numbered op)) [
  | inl numbered ↦
      let low : op - 2 ^ 32 < 2 ^ 64 = omega (arith, numbered_small op numbered) in
      subst AreSolid (sym (words-numbered op numbered)) (record {
        some = omega arith;
        each = (
          plain (codes "op") (omega arith, (omega arith, tt)) (omega arith),
          (solid_decimal (op - 2 ^ 32) low, tt),
        );
      })
  | inr nothing ↦
      subst AreSolid (sym (as_counter op nothing)) (solid_kind_words Second Counter op h)
]

-- an operation has at most three words
pub few_model_words : (op : ℕ) → length (model_words op) ≤ 3
few_model_words op = elim (cases_Bool (is_numbered op)) [
  | inl numbered ↦
      subst (λ (w : List (List ℕ)). length w ≤ 3) (sym (words-numbered op numbered)) (omega arith)
  | inr nothing ↦ subst (λ (w : List (List ℕ)). length w ≤ 3) (sym (as_counter op nothing))
      (few_kind_words Counter op)
]
