-- Reading words as an operation, and writing an operation, are the two directions of one spelling.
use Rattle.std.proofs.Common.{◌≡◌, ◌≢◌, ℕ, ◌^◌, ◌<◌, true, false, ◌==◌, ◌⊎◌, List, [], ◌∷◌, ◌++◌, length, Some, None, is_some, inl, inr, sym, ap, subst, ◌∙◌, arith, length-append}
use Rattle.std.specs.List.{join_with_byte}
use Rattle.std.proofs.lemmas.Bool.{both_ways, and_parts, eqb-true, ltb-true}
use Rattle.std.proofs.lemmas.Option.{same_Some}
use Rattle.std.proofs.lemmas.Fmt.{decimal_injective}
use Rattle.book_base.specs.OperationWord.{IsOperationWord}
use Rattle.seq_objects.specs.declared.kind.Kind.{Kind}
use Rattle.seq_objects.specs.declared.entry.Arity.{Arity}
use Rattle.seq_objects.specs.declared.entry.Arity.TheVariants.{Nullary, Unary, Binary}
use Rattle.seq_objects.specs.Words.{OperationEntry, entries, entry_of, is_known_word, code_of, argument_of, extra_of, has_arguments, argument_words, words_by_entry, whole_digits, operation_words, operation_text, Spells}
use Rattle.seq_objects.specs.EntryView.{entry_named, text_of, IsWrittenWith, LacksArguments}
use Rattle.list_laws.proofs.Finds.{IsIn}
use Rattle.list_laws.proofs.Options.{cases_Option, none_from_is_some}
use Rattle.seq_objects.proofs.Tables.{is_plain_name, is_plain_name-entry, marked-name, entry_of-operation, entry_of-inside, entry_named-name, entry_named-inside}
use Rattle.seq_objects.proofs.WholeDigits.{whole_digits-once}

-- The words of an operation of an entry.
pub operation_words-known : (kind : Kind) (word : ℕ) (e : OperationEntry)
    → entry_of kind word ≡ Some e
    → operation_words kind word ≡ e.name ∷ argument_words e.arity word
unfolding operation_words
operation_words-known kind word e known = ap (λ o. words_by_entry o word) known

-- The one word of an operation that the kind doesn't know.
pub operation_words-unknown : (kind : Kind) (word : ℕ) → entry_of kind word ≡ None
    → operation_words kind word ≡ (35 ∷ whole_digits word) ∷ []
unfolding operation_words
operation_words-unknown kind word unknown = ap (λ o. words_by_entry o word) unknown

unknown-entry : (kind : Kind) (word : ℕ) → is_known_word kind word ≡ false
    → entry_of kind word ≡ None
unfolding is_known_word
unknown-entry kind word unknown = none_from_is_some (entry_of kind word) unknown

-- '#' and the digits of a word that the kind doesn't know spell that word.
pub Spells-unknown : (kind : Kind) (first digits : List ℕ) (others : List (List ℕ)) (word : ℕ)
    → first ≡ 35 ∷ digits → whole_digits word ≡ digits → is_known_word kind word ≡ false
    → Spells kind (first ∷ others) word 0
Spells-unknown kind first digits others word begins spelled unknown =
    let words : operation_words kind word ≡ first ∷ [] =
    operation_words-unknown kind word (unknown-entry kind word unknown)
    ∙ ap (λ ds. (35 ∷ ds) ∷ []) spelled ∙ ap (λ w. w ∷ []) (sym begins) in
    record {
      suffix = others;
      whole = ap (λ ws. ws ++ others) (sym words);
      count = omega (arith, ap length words);
    }

-- The name of an entry, and its arguments after it, spell a word of this entry.
pub Spells-known : (kind : Kind) (first : List ℕ) (others : List (List ℕ)) (e : OperationEntry)
    (word used : ℕ)
    → entry_named kind first ≡ Some e → IsWrittenWith e others word used
    → Spells kind (first ∷ others) word used
Spells-known kind first others e word used named written =
    let at = entry_named-inside kind first e named in
    let words : operation_words kind word ≡ first ∷ argument_words e.arity word =
    operation_words-known kind word e (entry_of-operation kind word e at.0 written.operation)
    ∙ ap (λ n. n ∷ argument_words e.arity word) at.1 in
    record {
      suffix = written.suffix;
      whole = ap (λ ws. first ∷ ws) written.whole ∙ ap (λ ws. ws ++ written.suffix) (sym words);
      count = omega (arith, ap length words, written.count);
    }

-- The words name an operation that the kind knows: the first one is an entry's name, and its
-- arguments follow.
pub record IsNamed (first : List ℕ) (others : List (List ℕ)) (word used : ℕ)
    (e : OperationEntry) : Type 0 where
  pub name : e.name ≡ first
  pub written : IsWrittenWith e others word used

Spells-entry : (kind : Kind) (first : List ℕ) (others : List (List ℕ)) (word used : ℕ)
    (e : OperationEntry)
    → entry_of kind word ≡ Some e → Spells kind (first ∷ others) word used
    → IsNamed first others word used e
Spells-entry kind first others word used e known spells =
    let words = operation_words-known kind word e known in
    let same : first ∷ others ≡ e.name ∷ (argument_words e.arity word ++ spells.suffix) =
    spells.whole ∙ ap (λ ws. ws ++ spells.suffix) words in
    record {
      name = cc;
      written = record {
        operation = (entry_of-inside kind word e known).1;
        suffix = spells.suffix;
        whole = cc;
        count = omega (arith, ap length words, spells.count);
      };
    }

-- The words mark an operation that the kind doesn't know: the first one is '#' and the whole word
-- in digits.
Spells-marked : (kind : Kind) (first : List ℕ) (others : List (List ℕ)) (word used : ℕ)
    → entry_of kind word ≡ None → Spells kind (first ∷ others) word used
    → (first ≡ 35 ∷ whole_digits word) × (used ≡ 0)
Spells-marked kind first others word used unknown spells =
    let words = operation_words-unknown kind word unknown in
    let same : first ∷ others ≡ (35 ∷ whole_digits word) ∷ spells.suffix =
    spells.whole ∙ ap (λ ws. ws ++ spells.suffix) words in
    (cc, omega (arith, ap length words, spells.count))

-- How words spell an operation: '#' and the whole word, or an entry's name and its arguments.
pub Spells-cases : (kind : Kind) (first : List ℕ) (others : List (List ℕ)) (word used : ℕ)
    → Spells kind (first ∷ others) word used →
    ((first ≡ 35 ∷ whole_digits word) × (used ≡ 0) × (is_known_word kind word ≡ false))
    ⊎ ((e : OperationEntry) × IsIn e (entries kind) × IsNamed first others word used e)
unfolding is_known_word
Spells-cases kind first others word used spells =
    elim (cases_Option (entry_of kind word)) [
      | inl none ↦ let marked = Spells-marked kind first others word used none spells in
          inl (marked.0, marked.1, ap is_some none)
      | inr known ↦
          let inside = entry_of-inside kind word known.0 known.1 in
          inr (known.0, inside.0, Spells-entry kind first others word used known.0 known.1 spells)
    ]

-- A name of an entry doesn't begin with '#'.
named-marked : (kind : Kind) (first : List ℕ) (e : OperationEntry) (rest : List ℕ)
    → IsIn e (entries kind)
    → e.name ≡ first → first ≡ 35 ∷ rest → ⊥
named-marked kind first e rest inside name begins =
    marked-name rest
    (subst (λ n. is_plain_name n ≡ true) (name ∙ begins) (is_plain_name-entry kind e inside))

-- '#' and digits are no text of an operation where the kind knows the word with these digits.
pub not-Spells-marked : (kind : Kind) (first digits : List ℕ) (others : List (List ℕ))
    → first ≡ 35 ∷ digits
    → ((word : ℕ) → IsOperationWord word → whole_digits word ≡ digits
    → is_known_word kind word ≡ true)
    → (op used : ℕ) → IsOperationWord op → Spells kind (first ∷ others) op used → ⊥
not-Spells-marked kind first digits others begins known op used small spells =
    elim (Spells-cases kind first others op used spells) [
      | inl marked ↦
          let spelled : whole_digits op ≡ digits = cc in
          both_ways (is_known_word kind op) marked.2 (known op small spelled)
      | inr named ↦ named-marked kind first named.0 digits named.1 named.2.name begins
    ]

-- A word that is no name and doesn't begin with '#' begins no text of an operation.
pub not-Spells-unnamed : (kind : Kind) (first : List ℕ) (others : List (List ℕ))
    → ((rest : List ℕ) → first ≢ 35 ∷ rest) → entry_named kind first ≡ None → (op used : ℕ)
    → Spells kind (first ∷ others) op used → ⊥
not-Spells-unnamed kind first others unmarked none op used spells =
    elim (Spells-cases kind first others op used spells) [
      | inl marked ↦ unmarked (whole_digits op) marked.0
      | inr named ↦
          let found : entry_named kind first ≡ Some named.0 =
          entry_named-name kind first named.0 named.1 named.2.name in
          cc
    ]

-- The name of an entry spells nothing where its arguments don't follow.
pub not-Spells-lacking : (kind : Kind) (first : List ℕ) (others : List (List ℕ))
    (e : OperationEntry)
    → ((rest : List ℕ) → first ≢ 35 ∷ rest) → entry_named kind first ≡ Some e
    → LacksArguments e others → (op used : ℕ) → Spells kind (first ∷ others) op used → ⊥
not-Spells-lacking kind first others e unmarked found lacks op used spells =
    elim (Spells-cases kind first others op used spells) [
      | inl marked ↦ unmarked (whole_digits op) marked.0
      | inr named ↦
          let other : entry_named kind first ≡ Some named.0 =
          entry_named-name kind first named.0 named.1 named.2.name in
          let same : named.0 ≡ e = cc in
          let here : IsWrittenWith e others op used =
          subst (λ f. IsWrittenWith f others op used) same named.2.written in
          lacks.lacking op here.suffix here.operation here.whole
    ]

-- The text of an operation of an entry.
pub operation_text-known : (kind : Kind) (word : ℕ) (e : OperationEntry)
    → entry_of kind word ≡ Some e
    → operation_text kind word ≡ text_of e word
unfolding operation_text
operation_text-known kind word e known =
    ap (join_with_byte 32) (operation_words-known kind word e known)

-- The text of an operation that the kind doesn't know.
pub operation_text-unknown : (kind : Kind) (word : ℕ) → entry_of kind word ≡ None
    → operation_text kind word ≡ 35 ∷ whole_digits word
unfolding operation_text
operation_text-unknown kind word unknown =
    ap (join_with_byte 32) (operation_words-unknown kind word unknown)

-- Two words with the arguments of one arity, of which one text begins the same words, have the same
-- arguments.
same_arguments : (arity : Arity) (a b : ℕ) (x y : List (List ℕ)) → has_arguments arity a ≡ true
    → has_arguments arity b ≡ true → argument_words arity a ++ x ≡ argument_words arity b ++ y
    → (argument_of a ≡ argument_of b) × (extra_of a ≡ extra_of b)
same_arguments Nullary a b x y a_has b_has same =
    let a_parts = and_parts (argument_of a == 0) (extra_of a == 0) a_has in
    let b_parts = and_parts (argument_of b == 0) (extra_of b == 0) b_has in (
      eqb-true (argument_of a) 0 a_parts.0 ∙ sym (eqb-true (argument_of b) 0 b_parts.0),
      eqb-true (extra_of a) 0 a_parts.1 ∙ sym (eqb-true (extra_of b) 0 b_parts.1),
    )
same_arguments Unary a b x y a_has b_has same = (
  decimal_injective (argument_of a) (argument_of b) (omega arith) (omega arith) (cc),
  eqb-true (extra_of a) 0 a_has ∙ sym (eqb-true (extra_of b) 0 b_has),
)
same_arguments Binary a b x y a_has b_has same =
    let a_small : extra_of a < 2 ^ 32 = ltb-true (extra_of a) (2 ^ 32) a_has in
    let b_small : extra_of b < 2 ^ 32 = ltb-true (extra_of b) (2 ^ 32) b_has in (
      decimal_injective (argument_of a) (argument_of b) (omega arith) (omega arith) (cc),
      decimal_injective (extra_of a) (extra_of b) (omega arith) (omega arith) (cc),
    )

-- Two words that are operations of one entry, and whose texts begin the same words, are equal.
one_operation : (a b a_used b_used : ℕ) (e : OperationEntry) (words : List (List ℕ))
    → IsWrittenWith e words a a_used → IsWrittenWith e words b b_used → a ≡ b
one_operation a b a_used b_used e words a_is b_is =
    let a_parts = and_parts (code_of a == e.code) (has_arguments e.arity a) a_is.operation in
    let b_parts = and_parts (code_of b == e.code) (has_arguments e.arity b) b_is.operation in
    let codes : code_of a ≡ code_of b =
    eqb-true (code_of a) e.code a_parts.0 ∙ sym (eqb-true (code_of b) e.code b_parts.0) in
    let same = same_arguments e.arity a b a_is.suffix b_is.suffix a_parts.1 b_parts.1
    (sym a_is.whole ∙ b_is.whole) in
    omega arith

-- Words are read as one operation at most.
pub Spells-once : (kind : Kind) (words : List (List ℕ)) (a b a_used b_used : ℕ)
    → IsOperationWord a → IsOperationWord b → Spells kind words a a_used
    → Spells kind words b b_used → (a ≡ b) × (a_used ≡ b_used)
Spells-once kind [] a b a_used b_used a_small b_small a_spells b_spells =
    absurd (omega (
      arith,
      ap length a_spells.whole,
      a_spells.count,
      length-append (operation_words kind a) a_spells.suffix,
    ))
Spells-once kind (first ∷ others) a b a_used b_used a_small b_small a_spells b_spells =
    let one : a ≡ b = elim (Spells-cases kind first others a a_used a_spells) [
      | inl a_marked ↦ elim (Spells-cases kind first others b b_used b_spells) [
        | inl b_marked ↦ whole_digits-once a b a_small b_small (cc)
        | inr b_named ↦ absurd
            (named-marked kind first b_named.0 (whole_digits a) b_named.1 b_named.2.name a_marked.0)
      ]
      | inr a_named ↦ elim (Spells-cases kind first others b b_used b_spells) [
        | inl b_marked ↦ absurd
            (named-marked kind first a_named.0 (whole_digits b) a_named.1 a_named.2.name b_marked.0)
        | inr b_named ↦
            let found : Some b_named.0 ≡ Some a_named.0 =
            sym (entry_named-name kind first b_named.0 b_named.1 b_named.2.name)
            ∙ entry_named-name kind first a_named.0 a_named.1 a_named.2.name in
            let e : OperationEntry = a_named.0 in
            let same : b_named.0 ≡ e = same_Some b_named.0 e found in
            let b_here : IsWrittenWith e others b b_used =
            subst (λ f. IsWrittenWith f others b b_used) same b_named.2.written in
            one_operation a b a_used b_used e others a_named.2.written b_here
      ]
    ] in
    let counts : length (operation_words kind a) ≡ length (operation_words kind b) =
    ap (λ w. length (operation_words kind w)) one in
    (one, omega (arith, counts, a_spells.count, b_spells.count))
