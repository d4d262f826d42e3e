-- The words of a sequential object's operations in texts: one to three, none with a space or a line
-- feed, and no operation's words begin those of another.
use Rattle.std.proofs.Common.{◌≡◌, ℕ, ◌-◌, ◌<◌, ◌≤◌, ◌^◌, List, ◌++◌, length, refl, sym, subst, arith, inl, inr}
use Rattle.std.specs.Prelude.{IsTrue, nat_lt}
use Rattle.std.proofs.lemmas.Bool.{ltb-true}
use Rattle.std.proofs.lemmas.List.Elements.{recursion_from_All}
use Rattle.list_laws.proofs.Options.{cases_Option}
use Rattle.book_base.specs.OperationWord.{IsOperationWord}
use Rattle.seq_objects.specs.declared.kind.Kind.{Kind}
use Rattle.seq_objects.specs.declared.entry.Arity.{Arity}
use Rattle.seq_objects.specs.declared.entry.Arity.TheVariants.{Nullary, Unary, Binary}
use Rattle.seq_objects.specs.Words.{entry_of, operation_words, argument_words}
use Rattle.seq_objects.proofs.Spelling.{operation_words-known, operation_words-unknown, Spells-once}
use Rattle.seq_objects.proofs.Texts.{operation_words-IsWord}
use Rattle.text_fields.specs.declared.version.Version.{Version}
use Rattle.text_fields.specs.declared.version.Version.TheVariants.{First, Second}
use Rattle.text_fields.specs.Version.{word_limit}
use Rattle.text_fields.specs.Lines.{IsSolid, AreSolid}

-- a number below the limit of a version's operation words is an operation word
pub small_word : (version : Version) (op : ℕ) → IsTrue (nat_lt op (word_limit version))
    → IsOperationWord op
small_word First op h = let lt : op < 2 ^ 64 = ltb-true op (2 ^ 64) h in omega arith
small_word Second op h = ltb-true op (2 ^ 128) h

few_arguments : (arity : Arity) (op : ℕ) → length (argument_words arity op) ≤ 2
few_arguments Nullary op = omega arith
few_arguments Unary op = omega arith
few_arguments Binary op = omega arith

-- The number of words of an operation is at least one and at most three.
pub record AreFew (n : ℕ) : Type 0 where
  pub some : 1 ≤ n
  pub few : n ≤ 3

-- an operation has one to three words
pub few_operation_words : (kind : Kind) (op : ℕ) → AreFew (length (operation_words kind op))
few_operation_words kind op = elim (cases_Option (entry_of kind op)) [
  | inl none ↦ subst (λ (ws : List (List ℕ)). AreFew (length ws))
      (sym (operation_words-unknown kind op none))
      (record { some = omega arith; few = omega arith })
  | inr known ↦
      let few = few_arguments known.0.arity op in
      subst (λ (ws : List (List ℕ)). AreFew (length ws))
      (sym (operation_words-known kind op known.0 known.1))
      (record { some = omega arith; few = omega arith })
]

-- where the words of two operations begin the same list of words, they are one operation
pub one_kind_operation : (version : Version) (kind : Kind) (a b : ℕ) (x y : List (List ℕ))
    → IsTrue (nat_lt a (word_limit version)) → IsTrue (nat_lt b (word_limit version))
    → operation_words kind a ++ x ≡ operation_words kind b ++ y → a ≡ b
one_kind_operation version kind a b x y h k e =
    let some = few_operation_words kind a in
    let other = few_operation_words kind b in
    (Spells-once kind (operation_words kind b ++ y) a b (length (operation_words kind a) - 1)
    (length (operation_words kind b) - 1) (small_word version a h) (small_word version b k)
    (record { suffix = x; whole = sym e; count = omega (arith, some.some) })
    (record { suffix = y; whole = refl; count = omega (arith, other.some) })).0

-- an operation has at least one word, and no word of it has a space or a line feed
pub solid_kind_words : (version : Version) (kind : Kind) (op : ℕ)
    → IsTrue (nat_lt op (word_limit version)) → AreSolid (operation_words kind op)
solid_kind_words version kind op h = record {
  some = omega (arith, (few_operation_words kind op).some);
  each = recursion_from_All IsSolid (operation_words kind op)
      (λ i d inside. let word = operation_words-IsWord kind op (small_word version op h) i d
      inside in record { some = word.some; above = λ j c within. (word.printed j c within).0 });
}

-- an operation has at most three words
pub few_kind_words : (kind : Kind) (op : ℕ) → length (operation_words kind op) ≤ 3
few_kind_words kind op = (few_operation_words kind op).few
