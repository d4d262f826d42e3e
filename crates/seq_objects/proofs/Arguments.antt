-- The arguments of an entry's words, as they are read and written.
use Rattle.std.proofs.Common.{◌≡◌, ℕ, ◌^◌, ◌<◌, ◌==◌, true, List, [], ◌∷◌, ◌++◌, length, decimal, Option, Some, None, sym, ap, subst, refl, ◌∙◌, arith, append-nil}
use Rattle.std.specs.List.{join_with_byte}
use Rattle.std.proofs.lemmas.Bool.{and_from, eq-eqb}
use Rattle.seq_objects.specs.declared.entry.Arity.{Arity}
use Rattle.seq_objects.specs.declared.entry.Arity.TheVariants.{Nullary, Unary, Binary}
use Rattle.seq_objects.specs.Words.{OperationEntry, is_operation_of, code_of, argument_of, extra_of, word_of, has_arguments, argument_words, further}
use Rattle.seq_objects.specs.EntryView.{text_of, spaced_arguments, IsWrittenWith}

-- The code, the argument and the extra of a word that is made of them are these.
pub word_of-parts : (code argument extra : ℕ) → code < 2 ^ 32 → argument < 2 ^ 32
    → (code_of (word_of code argument extra) ≡ code)
    × (argument_of (word_of code argument extra) ≡ argument)
    × (extra_of (word_of code argument extra) ≡ extra)
word_of-parts code argument extra code_small argument_small =
    (omega arith, omega arith, omega arith)

-- A word that has the code of an entry and the arguments of its arity is an operation of the entry.
is_operation : (e : OperationEntry) (argument extra : ℕ) → e.code < 2 ^ 32 → argument < 2 ^ 32
    → has_arguments e.arity (word_of e.code argument extra) ≡ true
    → is_operation_of (word_of e.code argument extra) e ≡ true
is_operation e argument extra code_small argument_small has =
    let parts = word_of-parts e.code argument extra code_small argument_small in
    and_from (code_of (word_of e.code argument extra) == e.code)
    (has_arguments e.arity (word_of e.code argument extra))
    (eq-eqb (code_of (word_of e.code argument extra)) e.code parts.0) has

-- The word that is read where an entry has no argument.
pub IsWrittenWith-none : (e : OperationEntry) (words : List (List ℕ)) → e.code < 2 ^ 32
    → e.arity ≡ Nullary
    → IsWrittenWith e words (word_of e.code 0 0) 0
IsWrittenWith-none e words small arity =
    let word : ℕ = word_of e.code 0 0 in
    let parts = word_of-parts e.code 0 0 small (omega arith) in
    let has : has_arguments Nullary word ≡ true = and_from (argument_of word == 0)
    (extra_of word == 0) (eq-eqb (argument_of word) 0 parts.1) (eq-eqb (extra_of word) 0 parts.2) in
    record {
      operation = is_operation e 0 0 small (omega arith)
          (subst (λ a. has_arguments a word ≡ true) (sym arity) has);
      suffix = words;
      whole = ap (λ a. argument_words a word ++ words) (sym arity);
      count = ap (λ a. length (argument_words a word)) arity;
    }

further-one : (second : List ℕ) (third : Option (List ℕ))
    → further (Some second) third ≡ second ∷ further third None
further-one second None = refl
further-one second (Some third) = refl

spaced : (name : List ℕ) (arity : Arity) (word : ℕ)
    → join_with_byte 32 (name ∷ argument_words arity word) ≡ name ++ spaced_arguments arity word
spaced name Nullary word = sym (append-nil name)
spaced name Unary word = refl
spaced name Binary word = refl

-- The word that is read where an entry has one argument.
pub IsWrittenWith-one : (e : OperationEntry) (second : List ℕ) (third : Option (List ℕ))
    (argument : ℕ)
    → e.code < 2 ^ 32 → e.arity ≡ Unary → argument < 2 ^ 32 → decimal argument ≡ second
    → IsWrittenWith e (further (Some second) third) (word_of e.code argument 0) 1
IsWrittenWith-one e second third argument small arity argument_small spelled =
    let word : ℕ = word_of e.code argument 0 in
    let parts = word_of-parts e.code argument 0 small argument_small in
    let words : argument_words e.arity word ≡ second ∷ [] =
    ap (λ a. argument_words a word) arity ∙ ap (λ n. decimal n ∷ []) parts.1
    ∙ ap (λ w. w ∷ []) spelled in
    record {
      operation = is_operation e argument 0 small argument_small
          (subst (λ a. has_arguments a word ≡ true) (sym arity) (eq-eqb (extra_of word) 0 parts.2));
      suffix = further third None;
      whole = further-one second third ∙ ap (λ ws. ws ++ further third None) (sym words);
      count = ap length words;
    }

-- The text of an entry's word is its name, and each argument after a space.
pub text_of-spaced : (e : OperationEntry) (word : ℕ)
    → text_of e word ≡ e.name ++ spaced_arguments e.arity word
text_of-spaced e word = spaced e.name e.arity word
