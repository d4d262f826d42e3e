-- The words of the operations of joins in texts: at most three, none with a space or a line feed,
-- and no operation's words begin those of another.
use Rattle.std.proofs.Common.{◌≡◌, ℕ, ◌+◌, ◌-◌, ◌<◌, ◌≤◌, ◌^◌, ◌∙◌, true, false, List, [], ◌∷◌, ◌++◌, length, get_or, decimal, None, sym, ap, subst, inl, inr, arith}
use Rattle.std.specs.Prelude.{IsTrue, nat_lt, codes, ◌==◌}
use Rattle.std.proofs.lemmas.Bool.{cond-true, cond-false, cases_Bool, and_parts, both_ways, eqb-true}
use Rattle.std.proofs.lemmas.Bool.Decides.{nat_tests}
use Rattle.seq_objects.specs.declared.kind.Kind.TheVariants.{Counter}
use Rattle.seq_objects.specs.declared.entry.Arity.TheVariants.{Nullary}
use Rattle.seq_objects.specs.Words.{entries, entry_of, inc, code_of, argument_of, extra_of, has_arguments, is_operation_of, operation_words}
use Rattle.seq_objects.proofs.Spelling.{operation_words-unknown}
use Rattle.set_order.specs.Joins.{is_join}
use Rattle.text_fields.specs.declared.version.Version.TheVariants.{Second}
use Rattle.text_fields.specs.Lines.{AreSolid}
use Rattle.text_fields.specs.OperationLaws.{one_kind_operation, solid_kind_words, few_kind_words}
use Rattle.text_fields.proofs.NumberTexts.{same_first, same_number, solid_decimal}
use Rattle.text_fields.proofs.HeadTexts.{plain}
use Rattle.set_order.specs.JoinWords.{other_word, join_words}

-- the operations that join a number are those from 2^32 on, 32 of them
pub join_small : (op : ℕ) → is_join op ≡ true → op < 2 ^ 32 + 32
join_small op h = grind (arith, nat_tests)

pub join_least : (op : ℕ) → is_join op ≡ true → 2 ^ 32 ≤ op
join_least op h = grind (arith, nat_tests)

-- a counter doesn't know an operation that joins nothing
counter_unknown : (op : ℕ) → is_join op ≡ false → entry_of Counter op ≡ None
unfolding entry_of entries
counter_unknown op nothing = elim (cases_Bool (is_operation_of op inc)) [
  | inl known ↦
      let parts = and_parts (code_of op == 1) (has_arguments Nullary op) known in
      let arguments = and_parts (argument_of op == 0) (extra_of op == 0) parts.1 in
      let code : code_of op ≡ 1 = eqb-true (code_of op) 1 parts.0 in
      let argument : argument_of op ≡ 0 = eqb-true (argument_of op) 0 arguments.0 in
      let extra : extra_of op ≡ 0 = eqb-true (extra_of op) 0 arguments.1 in
      let is : op ≡ 2 ^ 32 = omega arith in
      absurd (both_ways (is_join op) nothing (ap is_join is))
  | inr unknown ↦ cond-false (is_operation_of op inc) _ _ unknown
]

-- the words of an operation that joins a number are 'join' and the number
pub words-join : (op : ℕ) → is_join op ≡ true
    → join_words op ≡ codes "join" ∷ decimal (op - 2 ^ 32) ∷ []
unfolding join_words
words-join op joins = cond-true (is_join op) _ _ joins

-- the one word of an operation that joins nothing is '#' and the whole operation word in digits
pub words-other : (op : ℕ) → is_join op ≡ false → join_words op ≡ other_word op ∷ []
unfolding join_words
words-other op nothing = cond-false (is_join op) _ _ nothing

-- a counter has one word for an operation that joins nothing: '#' and the whole operation word in
-- digits
pub counter_words : (op : ℕ) → is_join op ≡ false → operation_words Counter op ≡ other_word op ∷ []
counter_words op nothing = operation_words-unknown Counter op (counter_unknown op nothing)

-- an operation that joins nothing has the words that a counter has for it
pub as_counter : (op : ℕ) → is_join op ≡ false → join_words op ≡ operation_words Counter op
as_counter op nothing = words-other op nothing ∙ sym (counter_words op nothing)

-- the one word of an operation that joins nothing isn't 'join'
pub not_other : (op : ℕ) (x y : List (List ℕ)) → codes "join" ∷ x ≡ other_word op ∷ y → ⊥
not_other op x y e =
    let first : codes "join" ≡ other_word op =
    (same_first (codes "join") (other_word op) x y e).0 in
    absurd (omega (arith, ap (λ (word : List ℕ). get_or word 0 0) first))

-- where the words of two operations begin the same list of words, they are one operation
pub one_join : (a b : ℕ) (x y : List (List ℕ)) → IsTrue (nat_lt a (2 ^ 128))
    → IsTrue (nat_lt b (2 ^ 128)) → join_words a ++ x ≡ join_words b ++ y → a ≡ b
one_join a b x y h k e = elim (cases_Bool (is_join a)) [
  | inl ja ↦ elim (cases_Bool (is_join b)) [
    | inl jb ↦
        let whole : codes "join" ∷ decimal (a - 2 ^ 32) ∷ x
        ≡ codes "join" ∷ decimal (b - 2 ^ 32) ∷ y =
        ap (λ (w : List (List ℕ)). w ++ x) (sym (words-join a ja))
        ∙ (e ∙ ap (λ (w : List (List ℕ)). w ++ y) (words-join b jb)) in
        let suffix = (same_first (codes "join") (codes "join") (decimal (a - 2 ^ 32) ∷ x)
        (decimal (b - 2 ^ 32) ∷ y) whole).1 in
        let number = (same_first (decimal (a - 2 ^ 32)) (decimal (b - 2 ^ 32)) x y suffix).0 in
        let low : a - 2 ^ 32 < 2 ^ 64 = omega (arith, join_small a ja) in
        let other : b - 2 ^ 32 < 2 ^ 64 = omega (arith, join_small b jb) in
        let same : a - 2 ^ 32 ≡ b - 2 ^ 32 =
        same_number (a - 2 ^ 32) (b - 2 ^ 32) low other number in
        omega (arith, join_least a ja, join_least b jb)
    | inr nb ↦
        let whole : codes "join" ∷ decimal (a - 2 ^ 32) ∷ x ≡ other_word b ∷ y =
        ap (λ (w : List (List ℕ)). w ++ x) (sym (words-join a ja))
        ∙ (e ∙ ap (λ (w : List (List ℕ)). w ++ y) (words-other b nb)) in
        absurd (not_other b (decimal (a - 2 ^ 32) ∷ x) y whole)
  ]
  | inr na ↦ elim (cases_Bool (is_join b)) [
    | inl jb ↦
        let whole : codes "join" ∷ decimal (b - 2 ^ 32) ∷ y ≡ other_word a ∷ x =
        ap (λ (w : List (List ℕ)). w ++ y) (sym (words-join b jb))
        ∙ (sym e ∙ ap (λ (w : List (List ℕ)). w ++ x) (words-other a na)) in
        absurd (not_other a (decimal (b - 2 ^ 32) ∷ y) x whole)
    | inr nb ↦
        one_kind_operation Second Counter a b x y h k
        (ap (λ (w : List (List ℕ)). w ++ x) (sym (as_counter a na))
        ∙ (e ∙ ap (λ (w : List (List ℕ)). w ++ y) (as_counter b nb)))
  ]
]

-- an operation has at least one word, and no word of it has a space or a line feed
pub solid_join : (op : ℕ) → IsTrue (nat_lt op (2 ^ 128)) → AreSolid (join_words op)
solid_join op h = elim (cases_Bool (is_join op)) [
  | inl joins ↦
      let low : op - 2 ^ 32 < 2 ^ 64 = omega (arith, join_small op joins) in
      subst AreSolid (sym (words-join op joins)) (record {
        some = omega arith;
        each = (
          plain (codes "join") (omega arith, (omega arith, (omega arith, (omega arith, tt))))
              (omega arith),
          (solid_decimal (op - 2 ^ 32) low, tt),
        );
      })
  | inr nothing ↦
      subst AreSolid (sym (as_counter op nothing)) (solid_kind_words Second Counter op h)
]

-- an operation has at most three words
pub few_join : (op : ℕ) → length (join_words op) ≤ 3
few_join op = elim (cases_Bool (is_join op)) [
  | inl joins ↦
      subst (λ (w : List (List ℕ)). length w ≤ 3) (sym (words-join op joins)) (omega arith)
  | inr nothing ↦ subst (λ (w : List (List ℕ)). length w ≤ 3) (sym (as_counter op nothing))
      (few_kind_words Counter op)
]
