-- Objects inside the world: the shapes of the worlds that they run in, their passes, and what a
-- call is after its caller has asked one of them.
use Rattle.std.specs.Prelude.{◌≡◌, ℕ, List, [], ◌++◌, Some, length, slice_get, slice_set}
use Rattle.world_core.specs.Shape.{Shape, Meaning}
use Rattle.world_core.specs.Local.{Local, Object_step}
use Rattle.report_lines.specs.Phases.{Progress, progress_of}
use Rattle.row_table.specs.declared.rows.Rows.{Rows}
use Rattle.row_table.specs.Callers.{IsStill, MayGet}
use Rattle.drv_wrapper.specs.declared.announced.Announced.{Announced}
use Rattle.drv_wrapper.specs.States.{caller_announced, announced_local, op_announced}

-- The shape of the world of n callers with a cap, whose program is the one that `meaning` gives for
-- them.
abbrev pub shape_with : (ℕ → ℕ → Meaning) → ℕ → ℕ → Shape
shape_with meaning n cap = record { callers = n; cap = cap; program = meaning n cap }

-- The local `l` with these steps as the object steps of its call under way.
abbrev pub with_steps : Local → List Object_step → Local
with_steps l steps = record l { object_steps = slice_set l.object_steps l.published steps }

-- The progress of a caller after these further object steps.
abbrev pub after_steps : List Object_step → Progress → Progress
after_steps steps progress = record progress { steps = progress.steps ++ steps }

-- There is one pass for each of n callers, in order. Each fits its caller, the number n and the
-- cap, before the caller has made any object step.
pub record ArePassesFor {A : Type 0} (fits : A → ℕ → ℕ → ℕ → List Object_step → Type 0) (n cap : ℕ)
    (passes : List A) : Type 0 where
  pub count : length passes ≡ n
  pub fit : (i : ℕ) (pass : A) → slice_get passes i ≡ Some pass → fits pass i n cap []

module _ {P : Type 0} where
  -- The rows were opened with this program.
  pub record AreOpenedWith (meaning : P → ℕ → ℕ → Meaning) (program : P) (r : Rows P) : Type 0 where
    pub program_is : r.program ≡ program
    pub objects : r.objects ≡ (meaning program r.callers r.cap).objects

  -- The announced call `b` is the announced call `a` after some object steps of its caller and no
  -- other event, and the program allows its caller the reply `reply`.
  pub record HasReplied (meaning : P → ℕ → ℕ → Meaning) (r : Rows P) (a b : Announced P)
      (reply : ℕ) : Type 0 where
    pub steps : List Object_step
    pub still : IsStill meaning r (caller_announced a) (caller_announced b)
    pub operation : op_announced b ≡ op_announced a
    pub local : announced_local b ≡ with_steps (announced_local a) steps
    pub progress : progress_of (announced_local b)
        ≡ after_steps steps (progress_of (announced_local a))
    pub allowed : MayGet meaning (caller_announced b) reply
