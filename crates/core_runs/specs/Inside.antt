-- How the callers of an object inside the world ask it: on which rows, and whom a pass fits.
use Rattle.std.specs.Prelude.{◌≡◌, ℕ, List}
use Rattle.world_core.specs.Shape.{Meaning}
use Rattle.world_core.specs.Local.{Object_step}
use Rattle.row_table.specs.declared.rows.Rows.{Rows}
use Rattle.core_objects.specs.CoreObjects.{AreOpenedWith}
use Rattle.client_calls.specs.Asking.{Fits}

-- Whom a pass fits, with the arguments in the order that clients use: first the number of callers,
-- the cap and the pass, then the caller's number and its object steps.
abbrev pub fits_inside : {T : Type 0} → (T → ℕ → ℕ → ℕ → List Object_step → Type 0) → Fits T
fits_inside fits n cap pass who steps = fits pass who n cap steps

-- The callers of the rows r may ask an object inside the world: r are the rows `own` on which the
-- object makes its steps, and they were opened with its program.
abbrev pub ServesItsRows : {P : Type 0} → (P → ℕ → ℕ → Meaning) → P → Rows P → Rows P → Type 0
ServesItsRows meaning program own r = (own ≡ r) × AreOpenedWith meaning program own
