-- An object step of an announced call.
use Rattle.std.specs.Prelude.{◌≡◌, ℕ}
use Rattle.world_core.specs.Shape.{Meaning}
use Rattle.world_core.specs.Local.{Object_step, with_step}
use Rattle.world_core.specs.Event.{Object}
use Rattle.row_table.specs.declared.rows.Rows.{Rows}
use Rattle.row_table.specs.Callers.{IsStill, HasDone}
use Rattle.report_lines.specs.Phases.{progress_of}
use Rattle.report_lines.specs.Progress.{after_stepping}
use Rattle.drv_wrapper.specs.declared.announced.Announced.{Announced}
use Rattle.drv_wrapper.specs.States.{caller_announced, number_announced, op_announced, announced_local}
use Rattle.drv_wrapper.specs.Growth.{Grows}

-- The announced call `b` is the announced call `a` after this object step of its caller and no
-- other event. The step is the last one of this call and the last one of all the caller's calls,
-- and none of these calls has come further by it.
pub record HasStepped {P : Type 0} (meaning : P → ℕ → ℕ → Meaning) (r : Rows P) (a b : Announced P)
    (step : Object_step) : Type 0 where
  pub still : IsStill meaning r (caller_announced a) (caller_announced b)
  pub operation : op_announced b ≡ op_announced a
  pub event : HasDone r (caller_announced a) (caller_announced b) (Object step)
  pub steps : (announced_local b).object_steps
      ≡ with_step (announced_local a).object_steps (number_announced a) step
  pub progress : progress_of (announced_local b)
      ≡ after_stepping step (progress_of (announced_local a))
  pub grows : Grows (announced_local a) (announced_local b)
