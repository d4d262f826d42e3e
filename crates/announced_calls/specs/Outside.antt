-- Programs whose object is outside the world.
use Rattle.std.specs.Prelude.{ℕ}
use Rattle.world_core.specs.Shape.{Meaning}
use Rattle.world_core.specs.Programs.{outside}
use Rattle.world_core.specs.declared.program.Outside.{Outside}

-- The meaning of a program whose object is outside the world, which allows every reply.
abbrev pub every_reply : Outside → ℕ → ℕ → Meaning
every_reply program n cap = outside
