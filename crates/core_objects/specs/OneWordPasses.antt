-- The passes of objects of one word. A pass has its caller, the number of callers and the cap, and
-- nothing else.
use Rattle.std.specs.Prelude.{◌≡◌, ℕ, List}
use Rattle.world_core.specs.Local.{Object_step}
use Rattle.core_objects.specs.declared.one_word_pass.OneWordPass.{OneWordPass}

-- The pass of a caller, for n callers and a cap.
abbrev pub pass_of : ℕ → ℕ → ℕ → OneWordPass
pass_of caller n cap = record { caller = caller; callers = n; cap = cap }

-- A pass fits a caller, n callers and a cap where it was made for them, whatever object steps the
-- caller has made.
abbrev pub FitsOneWord : OneWordPass → ℕ → ℕ → ℕ → List Object_step → Type 0
FitsOneWord pass caller n cap steps = pass ≡ pass_of caller n cap
