-- The meanings of the two programs of this crate.
use Rattle.std.specs.Prelude.{true, false}
use Rattle.world_core.specs.Shape.{Meaning}

-- The meaning of the program of an object outside the world: there are no object words, no step is
-- allowed, and every reply is allowed.
abbrev pub outside : Meaning
outside = record { objects = 0; may_step = λ i l step. false; may_reply = λ i l reply. true }

-- The meaning of a program for tests: there is one object word, and every step and every reply is
-- allowed.
abbrev pub scrap : Meaning
scrap = record { objects = 1; may_step = λ i l step. true; may_reply = λ i l reply. true }
