-- The shape of a world: its callers, its cap and its program, none of which ever changes.
use Rattle.std.specs.Prelude.{ℕ, ◌+◌, Bool}
use Rattle.world_core.specs.Layout.{row_words}
use Rattle.world_core.specs.Local.{Local, Object_step}

-- The meaning of a program for some number of callers and some cap: how many object words there
-- are, whether a caller with some local may make a step on an object word, and whether a caller
-- with some local may get a reply.
pub record Meaning : Type 0 where
  pub objects : ℕ
  pub may_step : ℕ → Local → Object_step → Bool
  pub may_reply : ℕ → Local → ℕ → Bool

-- A shape says how many callers a world has, how many rows each of them has, and what the world's
-- program means.
pub record Shape : Type 0 where
  pub callers : ℕ
  pub cap : ℕ
  pub program : Meaning

-- How many words the table of a shape has: the counts and the rows, and after them the object
-- words.
abbrev pub words_of : Shape → ℕ
words_of s = row_words s.callers s.cap + s.program.objects
