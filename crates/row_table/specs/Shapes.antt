-- The shape of the world of a table that was made with a key.
use Rattle.std.specs.Prelude.{ℕ}
use Rattle.world_core.specs.Shape.{Meaning, Shape}
use Rattle.row_table.specs.declared.plays.Key.{Key}

-- The shape that has the callers and the cap of a key, and the meaning of its program.
abbrev pub shape_for : {P : Type 0} → (P → ℕ → ℕ → Meaning) → Key P → Shape
shape_for meaning key = record {
  callers = key.callers;
  cap = key.cap;
  program = meaning key.program key.callers key.cap;
}
