-- How the definitions see an entry of the code's tables of operations, and the texts of its words.
use Rattle.std.specs.Prelude.{◌≡◌, ◌≢◌, ℕ, true, List, [], ◌∷◌, ◌++◌, length, find, Option, bytes_eq, decimal}
use Rattle.std.specs.List.{join_with_byte}
use Rattle.seq_objects.specs.declared.entry.OperationEntry as code
use Rattle.seq_objects.specs.declared.kind.Kind.{Kind}
use Rattle.seq_objects.specs.declared.entry.Arity.{Arity}
use Rattle.seq_objects.specs.declared.entry.Arity.TheVariants.{Nullary, Unary, Binary}
use Rattle.seq_objects.specs.Words.{OperationEntry, entries, is_operation_of, argument_of, extra_of, argument_words}

-- An entry of the code's tables of operations, with its name as a list of bytes.
abbrev pub shown : code.OperationEntry → OperationEntry
shown entry = record { name = entry.name.now; code = entry.code; arity = entry.arity }

-- The entry with the name `name` in a kind's table of operations.
unfoldable pub entry_named : Kind → List ℕ → Option OperationEntry
entry_named kind name = find (λ entry. bytes_eq entry.name name) (entries kind)

-- The text of an operation word of an entry: the entry's name and the word's arguments, with one
-- space between two.
abbrev pub text_of : OperationEntry → ℕ → List ℕ
text_of entry word = join_with_byte 32 (entry.name ∷ argument_words entry.arity word)

-- The text of an operation word's arguments, each after a space.
abbrev pub spaced_arguments : Arity → ℕ → List ℕ
spaced_arguments Nullary word = []
spaced_arguments Unary word = 32 ∷ decimal (argument_of word)
spaced_arguments Binary word = (32 ∷ decimal (argument_of word)) ++ 32 ∷ decimal (extra_of word)

-- A list of words of a text begins with the arguments of `word`, an operation word of the entry;
-- `used` is how many arguments these are.
pub record IsWrittenWith (entry : OperationEntry) (words : List (List ℕ))
    (word used : ℕ) : Type 0 where
  pub operation : is_operation_of word entry ≡ true
  pub suffix : List (List ℕ)
  pub whole : words ≡ argument_words entry.arity word ++ suffix
  pub count : length (argument_words entry.arity word) ≡ used

-- A list of words of a text begins with the arguments of no operation word of the entry.
pub record LacksArguments (entry : OperationEntry) (words : List (List ℕ)) : Type 0 where
  pub lacking : (word : ℕ) (suffix : List (List ℕ)) → is_operation_of word entry ≡ true
      → words ≢ argument_words entry.arity word ++ suffix
