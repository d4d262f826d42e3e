-- Runs of the sequential objects, which begin with the first list of a kind. A step of a run is an
-- operation word and its reply.
use Rattle.std.specs.Prelude.{◌≡◌, ℕ, ◌==◌, ◌&&◌, Bool, true, false, List, ◌∷◌, ◌++◌}
use Rattle.std.specs.List.{AllByRecursion}
use Rattle.book_base.specs.Sequential.{IsLegalRun}
use Rattle.seq_objects.specs.declared.kind.Kind.{Kind}
use Rattle.seq_objects.specs.Words.{OperationEntry, is_operation_of, argument_of}
use Rattle.seq_objects.specs.Replies.{reply_done}
use Rattle.seq_objects.specs.Objects.{kind_spec}

-- Some steps are a run of an object of the kind `kind`, from its first list on.
abbrev pub IsRunOfKind : Kind → List (ℕ × ℕ) → Type 0
IsRunOfKind kind steps = IsLegalRun (kind_spec kind) steps

-- Whether the operation word of a step is one of the entry `entry`.
abbrev pub does : OperationEntry → ℕ × ℕ → Bool
does entry step = is_operation_of step.0 entry

-- Whether the operation word of a step is one of the entry `entry`, with the argument `value`.
abbrev pub does_with : OperationEntry → ℕ → ℕ × ℕ → Bool
does_with entry value step = does entry step && (argument_of step.0 == value)

-- No step of a list passes the test `test`.
abbrev pub NonePass : (ℕ × ℕ → Bool) → List (ℕ × ℕ) → Type 0
NonePass test steps = AllByRecursion (λ step. test step ≡ false) steps

-- In each run of an object of the kind `kind`, the reply to an operation of the entry `entry` is
-- `done`.
abbrev pub AreDone : Kind → OperationEntry → Type 0
AreDone kind entry = (before rest : List (ℕ × ℕ)) (step : ℕ × ℕ)
    → IsRunOfKind kind (before ++ step ∷ rest) → does entry step ≡ true
    → step.1 ≡ reply_done
