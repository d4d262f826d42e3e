-- Sequential objects, by what they do.
use Rattle.std.specs.Prelude.{ℕ, List}

-- A sequential object (Herlihy and Wing 1990): the list of words that it begins with, and its
-- transition function, which gives for a list and an operation word the list after the operation
-- and the reply.
pub record SeqSpec : Type 0 where
  pub init : List ℕ
  pub next : List ℕ → ℕ → List ℕ × ℕ

-- The sequential object that begins with this list and has this transition function.
abbrev pub spec_from : List ℕ → (List ℕ → ℕ → List ℕ × ℕ) → SeqSpec
spec_from list next = record { init = list; next = next }
