-- How clients ask their object: which caller a pass fits, and how a pass counts and tells its
-- calls, where it does so.
use Rattle.std.specs.Prelude.{◌≡◌, ℕ, ◌+◌, ◌<◌, List, Option, Some, IfSome, option_map}
use Rattle.world_core.specs.Local.{Local, Object_step}
use Rattle.world_core.specs.CallSteps.{all_steps_of}
use Rattle.report_lines.specs.Phases.{progress_of}
use Rattle.row_table.specs.declared.caller.Caller.{Caller}
use Rattle.row_table.specs.Callers.{who_of, local_with}
use Rattle.drv_wrapper.specs.Telling.{told_after}

-- The tests of whether a pass fits a caller, by the number of callers, the cap, the pass, the
-- caller's number, and the object steps of all its calls.
abbrev pub Fits : Type 0 → Type 1
Fits T = ℕ → ℕ → T → ℕ → List Object_step → Type 0

-- By the test `fits` a pass fits the caller c, with the object steps of all calls of c.
abbrev pub FitsCaller : {P T : Type 0} → Fits T → T → Caller P → Type 0
FitsCaller fits pass c = fits c.callers c.cap pass (who_of c) (all_steps_of (local_with c))

-- The count of a pass: how many calls were made with it, how many may be made in all, and, where it
-- tells them, the operation and the reply of each call that was made.
pub record PassCount : Type 0 where
  pub made : ℕ
  pub room : ℕ
  pub told : Option (List (ℕ × ℕ))

-- A further call may be made with a pass: its count allows one more, or it counts no calls.
abbrev pub HasCallLeft : Option PassCount → Type 0
HasCallLeft count = IfSome count (λ (c : PassCount). c.made < c.room)

-- The count of a pass after one more call, with this operation and this reply. A pass that counted
-- no calls counts none after it.
abbrev pub count_after : ℕ → ℕ → Option PassCount → Option PassCount
count_after op reply count =
    option_map (λ (c : PassCount).
    record { made = c.made + 1; room = c.room; told = told_after op reply c.told }) count

-- From local `before` to local `after` a caller's progress is unchanged, except for its object
-- steps.
abbrev pub ComesNoFurther : Local → Local → Type 0
ComesNoFurther before after =
    progress_of after ≡ record (progress_of before) { steps = all_steps_of after }

-- A pass fits a caller of an object outside the world where it is one of the object's own passes
-- and has this caller's number, whatever the caller's object steps.
abbrev pub fits_own : {T : Type 0} → (T → Type 0) → (T → ℕ) → Fits T
fits_own is_own caller n cap pass who steps = is_own pass × (caller pass ≡ who)

-- The count of a pass of an object outside the world: how many calls were made with it, how many
-- may be, and what it tells of them.
abbrev pub own_count : {T : Type 0} → (T → ℕ) → (T → ℕ) → (T → Option (List (ℕ × ℕ))) → T
    → Option PassCount
own_count made cap told pass = Some (record { made = made pass; room = cap pass; told = told pass })
