-- What a line says is said in one way.
use Rattle.std.proofs.Common.{◌≡◌, ◌≢◌, ◌∙◌, ℕ, ◌<◌, ◌^◌, Bool, true, false, cond, List, [], ◌∷◌, ◌++◌, Option, Some, refl, sym, ap, subst, inl, inr, arith}
use Rattle.std.specs.Prelude.{◌==◌, not, codes, decimal, find}
use Rattle.std.specs.List.{list_all}
use Rattle.std.proofs.lemmas.Bool.{and_parts}
use Rattle.std.proofs.lemmas.Fmt.{decimal_injective}
use Rattle.list_laws.proofs.Options.{cases_Option}
use Rattle.seq_objects.specs.declared.kind.Kind.{Kind}
use Rattle.seq_objects.specs.declared.kind.Kind.TheVariants.{Queue, Stack, Register, Counter, IntSet, Pqueue, CasRegister, Map}
use Rattle.seq_objects.specs.Words.{OperationEntry, entries, entry_of, is_operation_of, operation_words, argument_words, whole_digits}
use Rattle.seq_objects.specs.Replies.{reply_word}
use Rattle.seq_objects.proofs.Spelling.{operation_words-known, operation_words-unknown}
use Rattle.seq_objects.proofs.ReplyTexts.{reply_word-once}
use Rattle.text_fields.specs.declared.version.Version.TheVariants.{Second}
use Rattle.text_fields.specs.OperationLaws.{one_kind_operation}
use Rattle.stream_text.specs.Line.{HasOperation, name_words, IsLine}
use Rattle.stream_text.specs.declared.line.StreamLine.{StreamLine}
use Rattle.stream_text.specs.declared.line.StreamLine.TheVariants.{Call, Return, Lost, End}

-- whether a word begins as one that names an object
abbrev starts_at : List ℕ → Bool
starts_at [] = false
starts_at (byte ∷ bytes) = byte == 64

no_operation_starts_at : (kind : Kind)
    → list_all (λ (e : OperationEntry). not (starts_at e.name)) (entries kind) ≡ true
unfolding entries
no_operation_starts_at Queue = refl
no_operation_starts_at Stack = refl
no_operation_starts_at Register = refl
no_operation_starts_at Counter = refl
no_operation_starts_at IntSet = refl
no_operation_starts_at Pqueue = refl
no_operation_starts_at CasRegister = refl
no_operation_starts_at Map = refl

found_passes : {X : Type 0} (q p : X → Bool) (xs : List X) (x : X) → list_all q xs ≡ true
    → find p xs ≡ Some x → q x ≡ true
found_passes q p [] x all e = absurd cc
found_passes {X} q p (y ∷ ys) x all e =
    let parts = and_parts (q y) (list_all q ys) all in
    go (p y) e parts.0 (found_passes q p ys x parts.1)
  where
    go : (b : Bool) → ◌≡◌ {A = Option X} (cond b (Some y) (find p ys)) (Some x) → q y ≡ true
        → (find p ys ≡ Some x → q x ≡ true) → q x ≡ true
    go true is here later = let same : y ≡ x = cc in subst (λ (z : X). q z ≡ true) same here
    go false is here later = later is

entry_passes : (kind : Kind) (op : ℕ) (e : OperationEntry) → entry_of kind op ≡ Some e
    → not (starts_at e.name) ≡ true
unfolding entry_of
entry_passes kind op e is = found_passes (λ (e : OperationEntry). not (starts_at e.name))
    (is_operation_of op) (entries kind) e (no_operation_starts_at kind) is

-- the words of an operation don't begin with one that names an object
pub operation_names_none : (kind : Kind) (op : ℕ) (name : List ℕ) (rest : List (List ℕ))
    → operation_words kind op ≢ (64 ∷ name) ∷ rest
operation_names_none kind op name rest e = elim (cases_Option (entry_of kind op)) [
  | inl none ↦
      let f : (35 ∷ whole_digits op) ∷ [] ≡ (64 ∷ name) ∷ rest =
      sym (operation_words-unknown kind op none) ∙ e in absurd cc
  | inr known ↦
      let f : known.0.name ∷ argument_words known.0.arity op ≡ (64 ∷ name) ∷ rest =
      sym (operation_words-known kind op known.0 known.1) ∙ e in
      let same : known.0.name ≡ 64 ∷ name = cc in
      let passes : not (starts_at (64 ∷ name)) ≡ true =
      ap (λ (n : List ℕ). not (starts_at n)) (sym same) ∙ entry_passes kind op known.0 known.1 in
      absurd cc
]

-- a name and an operation are spelled in one way
named_once : (kind : Kind) (a b : List ℕ) (op other : ℕ)
    → name_words a ++ operation_words kind op ≡ name_words b ++ operation_words kind other
    → (a ≡ b) × (operation_words kind op ≡ operation_words kind other)
named_once kind [] [] op other e = (refl, e)
named_once kind [] (y ∷ b) op other e =
    absurd (operation_names_none kind op (y ∷ b) (operation_words kind other) e)
named_once kind (x ∷ a) [] op other e =
    absurd (operation_names_none kind other (x ∷ a) (operation_words kind op) (sym e))
named_once kind (x ∷ a) (y ∷ b) op other e = (cc, cc)

-- the first byte of a word, and of the first of some words
abbrev pub letter : List ℕ → ℕ
letter [] = 0
letter (byte ∷ word) = byte

abbrev pub first_letter : List (List ℕ) → ℕ
first_letter [] = 0
first_letter (word ∷ words) = letter word

-- two lines say the same
abbrev pub Alike : StreamLine → StreamLine → Type 0
Alike (Call p n op) (Call q m other) = (p ≡ q) × (n.now ≡ m.now) × (op ≡ other)
Alike (Return p reply) (Return q other) = (p ≡ q) × (reply ≡ other)
Alike (Lost p) (Lost q) = p ≡ q
Alike End End = Unit {0}
Alike a b = ⊥

calls_alike : (kind : Kind) (words : List (List ℕ)) (p q : ℕ) (n m : List ℕ) (op other : ℕ)
    → p < 2 ^ 64 → q < 2 ^ 64 → HasOperation kind op → HasOperation kind other
    → words ≡ codes "call" ∷ decimal p ∷ (name_words n ++ operation_words kind op)
    → words ≡ codes "call" ∷ decimal q ∷ (name_words m ++ operation_words kind other)
    → (p ≡ q) × (n ≡ m) × (op ≡ other)
calls_alike kind words p q n m op other p_low q_low has also is also_is =
    let first : decimal p ≡ decimal q = cc in
    let rest : name_words n ++ operation_words kind op
    ≡ name_words m ++ operation_words kind other = cc in
    let parts = named_once kind n m op other rest in (
      decimal_injective p q p_low q_low first,
      parts.0,
      one_kind_operation Second kind op other [] [] has also
          (ap (λ (l : List (List ℕ)). l ++ []) parts.1),
    )

returns_alike : (words : List (List ℕ)) (p q reply other : ℕ) → p < 2 ^ 64 → q < 2 ^ 64
    → reply < 2 ^ 64 → other < 2 ^ 64
    → words ≡ codes "return" ∷ decimal p ∷ reply_word reply ∷ []
    → words ≡ codes "return" ∷ decimal q ∷ reply_word other ∷ [] → (p ≡ q) × (reply ≡ other)
returns_alike words p q reply other p_low q_low low also_low is also_is =
    let first : decimal p ≡ decimal q = cc in
    let second : reply_word reply ≡ reply_word other = cc in
    (decimal_injective p q p_low q_low first, reply_word-once reply other low also_low second)

losses_alike : (words : List (List ℕ)) (p q : ℕ) → p < 2 ^ 64 → q < 2 ^ 64
    → words ≡ codes "lost" ∷ decimal p ∷ [] → words ≡ codes "lost" ∷ decimal q ∷ [] → p ≡ q
losses_alike words p q p_low q_low is also_is =
    let first : decimal p ≡ decimal q = cc in decimal_injective p q p_low q_low first

-- words are those of one line
pub one_line : (kind : Kind) (words : List (List ℕ)) (a b : StreamLine) → IsLine kind words a
    → IsLine kind words b → Alike a b
one_line kind words (Call p n op) (Call q m other) x y =
    calls_alike kind words p q n.now m.now op other x.0 y.0 x.1 y.1 x.2 y.2
one_line kind words (Call p n op) (Return q other) x y = absurd (omega (arith, ap first_letter (sym x.2 ∙ y.2)))
one_line kind words (Call p n op) (Lost q) x y = absurd (omega (arith, ap first_letter (sym x.2 ∙ y.1)))
one_line kind words (Call p n op) End x y = absurd (omega (arith, ap first_letter (sym x.2 ∙ y)))
one_line kind words (Return p reply) (Call q m other) x y = absurd (omega (arith, ap first_letter (sym x.2 ∙ y.2)))
one_line kind words (Return p reply) (Return q other) x y =
    returns_alike words p q reply other x.0 y.0 x.1 y.1 x.2 y.2
one_line kind words (Return p reply) (Lost q) x y = absurd (omega (arith, ap first_letter (sym x.2 ∙ y.1)))
one_line kind words (Return p reply) End x y = absurd (omega (arith, ap first_letter (sym x.2 ∙ y)))
one_line kind words (Lost p) (Call q m other) x y = absurd (omega (arith, ap first_letter (sym x.1 ∙ y.2)))
one_line kind words (Lost p) (Return q other) x y = absurd (omega (arith, ap first_letter (sym x.1 ∙ y.2)))
one_line kind words (Lost p) (Lost q) x y = losses_alike words p q x.0 y.0 x.1 y.1
one_line kind words (Lost p) End x y = absurd (omega (arith, ap first_letter (sym x.1 ∙ y)))
one_line kind words End (Call q m other) x y = absurd (omega (arith, ap first_letter (sym x ∙ y.2)))
one_line kind words End (Return q other) x y = absurd (omega (arith, ap first_letter (sym x ∙ y.2)))
one_line kind words End (Lost q) x y = absurd (omega (arith, ap first_letter (sym x ∙ y.1)))
one_line kind words End End x y = tt
