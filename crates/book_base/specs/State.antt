-- The state of a sequential object.
use Rattle.std.specs.Prelude.{ℕ, List}

-- the state of a sequential object: a list of words, and the capacity of the list
pub record Contents : Type 0 where
  pub words : List ℕ
  pub room : ℕ
