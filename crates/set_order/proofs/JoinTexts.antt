-- Which operation of joins words spell, if any.
use Rattle.std.proofs.Common.{◌≡◌, ℕ, ◌+◌, ◌-◌, ◌<◌, ◌^◌, ◌∙◌, true, false, List, [], ◌∷◌, ◌++◌, length, decimal, Option, Some, None, sym, ap, inl, inr, arith}
use Rattle.std.specs.Prelude.{codes}
use Rattle.std.proofs.lemmas.Bool.{cases_Bool, lt-ltb, ltb-true}
use Rattle.std.proofs.lemmas.Bool.Decides.{nat_tests}
use Rattle.std.proofs.lemmas.Option.{same_Some, none-some}
use Rattle.seq_objects.specs.declared.kind.Kind.TheVariants.{Counter}
use Rattle.seq_objects.specs.Words.{further, Spells}
use Rattle.set_order.specs.Joins.{is_join}
use Rattle.text_fields.specs.Operations.{IsSpelled}
use Rattle.text_fields.proofs.NumberTexts.{same_first}
use Rattle.set_order.specs.JoinWords.{other_word, join_words, join_operations}
use Rattle.set_order.specs.JoinLaws.{join_small, join_least, words-join, words-other, counter_words, not_other}

-- the words after a first one, where there is one
others_there : (second third : Option (List ℕ)) (word : List ℕ) → second ≡ Some word
    → (suffix : List (List ℕ)) × (further second third ≡ word ∷ suffix)
others_there None third word e = absurd (none-some word e)
others_there (Some found) None word e = ([], ap (λ (w : List ℕ). w ∷ []) (same_Some found word e))
others_there (Some found) (Some last) word e =
    (last ∷ [], ap (λ (w : List ℕ). w ∷ last ∷ []) (same_Some found word e))

others_begin : (second third : Option (List ℕ)) (word : List ℕ) (suffix : List (List ℕ))
    → further second third ≡ word ∷ suffix → second ≡ Some word
others_begin None third word suffix e = absurd cc
others_begin (Some found) None word suffix e = let same : found ≡ word = cc in
    ap (λ (w : List ℕ). Some w) same
others_begin (Some found) (Some last) word suffix e = let same : found ≡ word = cc in
    ap (λ (w : List ℕ). Some w) same

join_from : (n op : ℕ) → n < 32 → op ≡ 2 ^ 32 + n → is_join op ≡ true
join_from n op small is = grind (arith, nat_tests)

-- 'join' and a number below 32 spell the operation that joins it
pub spelled_join : (first : List ℕ) (second third : Option (List ℕ)) (n op : ℕ)
    → first ≡ codes "join" → n < 32 → second ≡ Some (decimal n) → op ≡ 2 ^ 32 + n
    → IsSpelled join_operations (first ∷ further second third) op 1
spelled_join first second third n op name small is op_is =
    let joins : is_join op ≡ true = join_from n op small op_is in
    let number : op - 2 ^ 32 ≡ n = omega arith in
    let words : join_words op ≡ codes "join" ∷ decimal n ∷ [] =
    words-join op joins ∙ ap (λ (m : ℕ). codes "join" ∷ decimal m ∷ []) number in
    let others = others_there second third (decimal n) is in
    let below : op < 2 ^ 128 = omega arith in
    record {
      has = lt-ltb op (2 ^ 128) below;
      suffix = others.0;
      whole = ap (λ (w : List ℕ). w ∷ further second third) name
          ∙ (ap (λ (ws : List (List ℕ)). codes "join" ∷ ws) others.1
          ∙ ap (λ (ws : List (List ℕ)). ws ++ others.0) (sym words));
      count = ap (λ (ws : List (List ℕ)). length ws) words;
    }

-- 'join' without a number below 32 after it spells no operation
pub not_spelled_join : (first : List ℕ) (second third : Option (List ℕ)) → first ≡ codes "join"
    → ((n : ℕ) → n < 32 → second ≡ Some (decimal n) → ⊥)
    → (op used : ℕ) → IsSpelled join_operations (first ∷ further second third) op used → ⊥
not_spelled_join first second third name none op used h = elim (cases_Bool (is_join op)) [
  | inl joins ↦
      let whole : first ∷ further second third ≡ codes "join" ∷ decimal (op - 2 ^ 32) ∷ h.suffix =
      h.whole ∙ ap (λ (ws : List (List ℕ)). ws ++ h.suffix) (words-join op joins) in
      let others = (same_first first (codes "join") (further second third)
      (decimal (op - 2 ^ 32) ∷ h.suffix) whole).1 in
      let small : op - 2 ^ 32 < 32 = omega (arith, join_small op joins, join_least op joins) in
      none (op - 2 ^ 32) small (others_begin second third (decimal (op - 2 ^ 32)) h.suffix others)
  | inr nothing ↦
      let whole : codes "join" ∷ further second third ≡ other_word op ∷ h.suffix =
      ap (λ (w : List ℕ). w ∷ further second third) (sym name)
      ∙ (h.whole ∙ ap (λ (ws : List (List ℕ)). ws ++ h.suffix) (words-other op nothing)) in
      not_other op (further second third) h.suffix whole
]

-- the one word of an operation that joins nothing spells it
pub spelled_other : (first : List ℕ) (others : List (List ℕ)) (op : ℕ) → op < 2 ^ 128
    → is_join op ≡ false → first ≡ other_word op → IsSpelled join_operations (first ∷ others) op 0
spelled_other first others op small nothing is = record {
  has = lt-ltb op (2 ^ 128) small;
  suffix = others;
  whole = ap (λ (w : List ℕ). w ∷ others) is
      ∙ ap (λ (ws : List (List ℕ)). ws ++ others) (sym (words-other op nothing));
  count = ap (λ (ws : List (List ℕ)). length ws) (words-other op nothing);
}

pub not_spelled_other : (first : List ℕ) (others : List (List ℕ)) → (first ≡ codes "join" → ⊥)
    → ((op : ℕ) → op < 2 ^ 128 → is_join op ≡ false → first ≡ other_word op → ⊥)
    → (op used : ℕ) → IsSpelled join_operations (first ∷ others) op used → ⊥
not_spelled_other first others unnamed none op used h = elim (cases_Bool (is_join op)) [
  | inl joins ↦
      let whole : first ∷ others ≡ codes "join" ∷ decimal (op - 2 ^ 32) ∷ h.suffix =
      h.whole ∙ ap (λ (ws : List (List ℕ)). ws ++ h.suffix) (words-join op joins) in
      unnamed (same_first first (codes "join") others (decimal (op - 2 ^ 32) ∷ h.suffix) whole).0
  | inr nothing ↦
      let whole : first ∷ others ≡ other_word op ∷ h.suffix =
      h.whole ∙ ap (λ (ws : List (List ℕ)). ws ++ h.suffix) (words-other op nothing) in
      let small : op < 2 ^ 128 = ltb-true op (2 ^ 128) h.has in
      none op small nothing (same_first first (other_word op) others h.suffix whole).0
]

-- the operation that a counter reads of one word

pub spells_other : (word : List ℕ) (op : ℕ) → is_join op ≡ false → word ≡ other_word op
    → Spells Counter (word ∷ []) op 0
spells_other word op nothing is = record {
  suffix = [];
  whole = ap (λ (w : List ℕ). w ∷ []) is
      ∙ ap (λ (ws : List (List ℕ)). ws ++ []) (sym (counter_words op nothing));
  count = ap (λ (ws : List (List ℕ)). length ws) (counter_words op nothing);
}

pub other_spelled : (word : List ℕ) (op used : ℕ) → is_join op ≡ false
    → Spells Counter (word ∷ []) op used → word ≡ other_word op
other_spelled word op used nothing h =
    let whole : word ∷ [] ≡ other_word op ∷ h.suffix =
    h.whole ∙ ap (λ (ws : List (List ℕ)). ws ++ h.suffix) (counter_words op nothing) in
    (same_first word (other_word op) [] h.suffix whole).0
