-- Which operation of models words spell, if any.
use Rattle.std.proofs.Common.{◌≡◌, ℕ, ◌+◌, ◌-◌, ◌<◌, ◌^◌, ◌∙◌, true, false, List, [], ◌∷◌, ◌++◌, length, decimal, Option, Some, None, sym, ap, inl, inr, arith}
use Rattle.std.specs.Prelude.{codes}
use Rattle.std.proofs.lemmas.Bool.{cases_Bool, lt-ltb, ltb-true}
use Rattle.std.proofs.lemmas.Bool.Decides.{nat_tests}
use Rattle.std.proofs.lemmas.List.{append-nil}
use Rattle.std.proofs.lemmas.Option.{same_Some, none-some}
use Rattle.seq_objects.specs.declared.kind.Kind.TheVariants.{Counter}
use Rattle.seq_objects.specs.Words.{further, Spells}
use Rattle.text_fields.specs.Operations.{IsSpelled}
use Rattle.text_fields.proofs.NumberTexts.{same_first}
use Rattle.book_text.specs.Fields.{spaced}
use Rattle.book_text.proofs.WrittenLines.{both_pieces}
use Rattle.model_text.specs.ModelWords.{is_numbered, other_word, model_words, model_operations}
use Rattle.model_text.specs.ModelWordLaws.{numbered_small, numbered_least, words-numbered, words-other, counter_words, not_other}

-- the words after a first one, where there is one
others_there : (second third : Option (List ℕ)) (word : List ℕ) → second ≡ Some word
    → (suffix : List (List ℕ)) × (further second third ≡ word ∷ suffix)
others_there None third word e = absurd (none-some word e)
others_there (Some found) None word e = ([], ap (λ (w : List ℕ). w ∷ []) (same_Some found word e))
others_there (Some found) (Some last) word e =
    (last ∷ [], ap (λ (w : List ℕ). w ∷ last ∷ []) (same_Some found word e))

others_begin : (second third : Option (List ℕ)) (word : List ℕ) (suffix : List (List ℕ))
    → further second third ≡ word ∷ suffix → second ≡ Some word
others_begin None third word suffix e = absurd cc
others_begin (Some found) None word suffix e = let same : found ≡ word = cc in
    ap (λ (w : List ℕ). Some w) same
others_begin (Some found) (Some last) word suffix e = let same : found ≡ word = cc in
    ap (λ (w : List ℕ). Some w) same

numbered_from : (n op : ℕ) → n < 2 ^ 32 → op ≡ 2 ^ 32 + n → is_numbered op ≡ true
numbered_from n op small is = grind (arith, nat_tests)

-- 'op' and a number below 2^32 spell the operation of this number
pub spelled_numbered : (first : List ℕ) (second third : Option (List ℕ)) (n op : ℕ)
    → first ≡ codes "op" → n < 2 ^ 32 → second ≡ Some (decimal n) → op ≡ 2 ^ 32 + n
    → IsSpelled model_operations (first ∷ further second third) op 1
spelled_numbered first second third n op name small is op_is =
    let numbered : is_numbered op ≡ true = numbered_from n op small op_is in
    let number : op - 2 ^ 32 ≡ n = omega arith in
    let words : model_words op ≡ codes "op" ∷ decimal n ∷ [] =
    words-numbered op numbered ∙ ap (λ (m : ℕ). codes "op" ∷ decimal m ∷ []) number in
    let others = others_there second third (decimal n) is in
    let below : op < 2 ^ 128 = omega arith in
    record {
      has = lt-ltb op (2 ^ 128) below;
      suffix = others.0;
      whole = ap (λ (w : List ℕ). w ∷ further second third) name
          ∙ (ap (λ (ws : List (List ℕ)). codes "op" ∷ ws) others.1
          ∙ ap (λ (ws : List (List ℕ)). ws ++ others.0) (sym words));
      count = ap (λ (ws : List (List ℕ)). length ws) words;
    }

-- 'op' without a number below 2^32 after it spells no operation
pub not_spelled_numbered : (first : List ℕ) (second third : Option (List ℕ)) → first ≡ codes "op"
    → ((n : ℕ) → n < 2 ^ 32 → second ≡ Some (decimal n) → ⊥)
    → (op used : ℕ) → IsSpelled model_operations (first ∷ further second third) op used → ⊥
not_spelled_numbered first second third name none op used h = elim (cases_Bool (is_numbered op)) [
  | inl numbered ↦
      let whole : first ∷ further second third ≡ codes "op" ∷ decimal (op - 2 ^ 32) ∷ h.suffix =
      h.whole ∙ ap (λ (ws : List (List ℕ)). ws ++ h.suffix) (words-numbered op numbered) in
      let others = (same_first first (codes "op") (further second third)
      (decimal (op - 2 ^ 32) ∷ h.suffix) whole).1 in
      let small : op - 2 ^ 32 < 2 ^ 32 = omega (arith, numbered_small op numbered, numbered_least op numbered) in
      none (op - 2 ^ 32) small (others_begin second third (decimal (op - 2 ^ 32)) h.suffix others)
  | inr nothing ↦
      let whole : codes "op" ∷ further second third ≡ other_word op ∷ h.suffix =
      ap (λ (w : List ℕ). w ∷ further second third) (sym name)
      ∙ (h.whole ∙ ap (λ (ws : List (List ℕ)). ws ++ h.suffix) (words-other op nothing)) in
      not_other op (further second third) h.suffix whole
]

-- the one word of an operation that has no number spells it
pub spelled_other : (first : List ℕ) (others : List (List ℕ)) (op : ℕ) → op < 2 ^ 128
    → is_numbered op ≡ false → first ≡ other_word op → IsSpelled model_operations (first ∷ others) op 0
spelled_other first others op small nothing is = record {
  has = lt-ltb op (2 ^ 128) small;
  suffix = others;
  whole = ap (λ (w : List ℕ). w ∷ others) is
      ∙ ap (λ (ws : List (List ℕ)). ws ++ others) (sym (words-other op nothing));
  count = ap (λ (ws : List (List ℕ)). length ws) (words-other op nothing);
}

pub not_spelled_other : (first : List ℕ) (others : List (List ℕ)) → (first ≡ codes "op" → ⊥)
    → ((op : ℕ) → op < 2 ^ 128 → is_numbered op ≡ false → first ≡ other_word op → ⊥)
    → (op used : ℕ) → IsSpelled model_operations (first ∷ others) op used → ⊥
not_spelled_other first others unnamed none op used h = elim (cases_Bool (is_numbered op)) [
  | inl numbered ↦
      let whole : first ∷ others ≡ codes "op" ∷ decimal (op - 2 ^ 32) ∷ h.suffix =
      h.whole ∙ ap (λ (ws : List (List ℕ)). ws ++ h.suffix) (words-numbered op numbered) in
      unnamed (same_first first (codes "op") others (decimal (op - 2 ^ 32) ∷ h.suffix) whole).0
  | inr nothing ↦
      let whole : first ∷ others ≡ other_word op ∷ h.suffix =
      h.whole ∙ ap (λ (ws : List (List ℕ)). ws ++ h.suffix) (words-other op nothing) in
      let small : op < 2 ^ 128 = ltb-true op (2 ^ 128) h.has in
      none op small nothing (same_first first (other_word op) others h.suffix whole).0
]

-- the operation that a counter reads of one word

pub spells_other : (word : List ℕ) (op : ℕ) → is_numbered op ≡ false → word ≡ other_word op
    → Spells Counter (word ∷ []) op 0
spells_other word op nothing is = record {
  suffix = [];
  whole = ap (λ (w : List ℕ). w ∷ []) is
      ∙ ap (λ (ws : List (List ℕ)). ws ++ []) (sym (counter_words op nothing));
  count = ap (λ (ws : List (List ℕ)). length ws) (counter_words op nothing);
}

pub other_spelled : (word : List ℕ) (op used : ℕ) → is_numbered op ≡ false
    → Spells Counter (word ∷ []) op used → word ≡ other_word op
other_spelled word op used nothing h =
    let whole : word ∷ [] ≡ other_word op ∷ h.suffix =
    h.whole ∙ ap (λ (ws : List (List ℕ)). ws ++ h.suffix) (counter_words op nothing) in
    (same_first word (other_word op) [] h.suffix whole).0

-- ---- the words of an operation with a number, as they are written

pub numbered_written : (old middle new : List ℕ) (op : ℕ) → is_numbered op ≡ true
    → middle ≡ old ++ codes " op" → new ≡ middle ++ 32 ∷ decimal (op - 2 ^ 32)
    → new ≡ old ++ spaced (model_words op)
numbered_written old middle new op numbered h k =
    both_pieces old middle new (codes " op") (32 ∷ decimal (op - 2 ^ 32)) h k
    ∙ ap (λ (w : List ℕ). old ++ (codes " op" ++ 32 ∷ w)) (sym (append-nil (decimal (op - 2 ^ 32))))
    ∙ ap (λ (ws : List (List ℕ)). old ++ spaced ws) (sym (words-numbered op numbered))
