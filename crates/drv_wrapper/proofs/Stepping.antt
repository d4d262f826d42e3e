-- What an object step leaves of its caller's local.
use Rattle.std.proofs.Common.{◌≡◌, ℕ, ap, sym, subst, ◌∙◌}
use Rattle.world_core.specs.Shape.{Meaning}
use Rattle.world_core.specs.Local.{Local, Object_step}
use Rattle.world_core.specs.Event.{Object}
use Rattle.report_lines.specs.Phases.{progress_of}
use Rattle.report_lines.proofs.Accounts.{object_steps_count}
use Rattle.row_table.specs.declared.rows.Rows.{Rows}
use Rattle.row_table.specs.Callers.{shape_of, IsCallerOf, IsStill, HasDone}
use Rattle.drv_wrapper.specs.declared.announced.Announced.{Announced}
use Rattle.drv_wrapper.specs.States.{caller_announced, who_announced, op_announced, announced_local}
use Rattle.drv_wrapper.specs.Growth.{Grows}
use Rattle.drv_wrapper.specs.ObjectSteps.{HasStepped}
use Rattle.drv_wrapper.proofs.Locals.{local_has_phase}
use Rattle.drv_wrapper.proofs.Phases.{asking_is}

-- an object step of an announced call, and no other event
pub has_stepped : {P : Type 0} (meaning : P → ℕ → ℕ → Meaning) (r : Rows P) (a b : Announced P)
    (step : Object_step) → IsCallerOf meaning r (caller_announced a)
    → IsStill meaning r (caller_announced a) (caller_announced b) → op_announced b ≡ op_announced a
    → HasDone r (caller_announced a) (caller_announced b) (Object step)
    → HasStepped meaning r a b step
has_stepped meaning r a b step caller still operation event =
    let l : Local = announced_local a in
    record {
      still = still;
      operation = operation;
      event = event;
      steps = ap (λ (m : Local). m.object_steps) event;
      progress =
          ap progress_of event
          ∙ object_steps_count r.callers l step
          (local_has_phase (shape_of meaning r) (who_announced a) l caller.seat.local)
          (asking_is l.phase a.asked.asking);
      grows = subst (Grows l) (sym event)
          (record { looked = λ x h. h; peeked = λ x h. h; cuts = λ place given h. h });
    }
