-- Which replies an operation can have in some state of the object of a kind.
use Rattle.std.specs.Prelude.{◌≡◌, ℕ, List}
use Rattle.seq_objects.specs.declared.kind.Kind.{Kind}
use Rattle.seq_objects.specs.Objects.{kind_next}

-- The sequential object of this kind gives this reply to the operation at some list.
pub record IsPossible (kind : Kind) (op reply : ℕ) : Type 0 where
  pub state : List ℕ
  pub gives : (kind_next kind state op).1 ≡ reply
