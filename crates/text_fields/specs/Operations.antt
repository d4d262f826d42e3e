-- The words of operations in a text.
use Rattle.std.specs.Prelude.{◌≡◌, ℕ, ◌+◌, Bool, IsTrue, nat_lt, List, ◌++◌, length}
use Rattle.seq_objects.specs.declared.kind.Kind.{Kind}
use Rattle.seq_objects.specs.Words.{operation_words}
use Rattle.text_fields.specs.declared.version.Version.{Version}
use Rattle.text_fields.specs.Version.{word_limit}

-- The operations that a kind of text has, and the words of each.
pub record Operations : Type 0 where
  pub has : ℕ → Bool
  pub words : ℕ → List (List ℕ)

-- Words begin with those of an operation: a first one, and `used` further ones.
pub record IsSpelled (operations : Operations) (words : List (List ℕ)) (op used : ℕ) : Type 0 where
  pub has : IsTrue (operations.has op)
  pub suffix : List (List ℕ)
  pub whole : words ≡ operations.words op ++ suffix
  pub count : length (operations.words op) ≡ used + 1

-- the operations of a sequential object, in a text of a version
abbrev pub kind_operations : Version → Kind → Operations
kind_operations version kind =
    record { has = λ op. nat_lt op (word_limit version); words = operation_words kind }
