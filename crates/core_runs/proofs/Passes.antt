-- The passes of the callers of an object inside the world: whom they fit, by the rows and in the
-- order of arguments that clients use.
use Rattle.std.proofs.Common.{◌≡◌, ◌∙◌, sym, subst, ap, ℕ, List, length}
use Rattle.std.specs.Prelude.{None}
use Rattle.world_core.specs.Local.{Local, Object_step}
use Rattle.report_lines.specs.Phases.{Progress, progress_of}
use Rattle.row_table.specs.declared.rows.Rows.{Rows}
use Rattle.drv_wrapper.specs.Growth.{Grows}
use Rattle.core_objects.specs.CoreObjects.{with_steps, after_steps, ArePassesFor}
use Rattle.client_calls.specs.Asking.{ComesNoFurther}
use Rattle.run_report.specs.Starts.{AreFreshPasses}
use Rattle.core_runs.specs.Inside.{fits_inside}

-- the progress of a caller that has made some more object steps is as before, but for these
pub comes_no_further : (l m : Local) (steps : List Object_step)
    → progress_of m ≡ after_steps steps (progress_of l) → ComesNoFurther l m
comes_no_further l m steps made =
    made ∙ ap (λ (all : List Object_step). record (progress_of l) { steps = all })
    (sym (ap (λ (p : Progress). p.steps) made))

-- a caller that has made some more object steps has still found what it had found
pub grows_by_steps : (l m : Local) (steps : List Object_step) → m ≡ with_steps l steps → Grows l m
grows_by_steps l m steps made =
    subst (λ (x : Local). Grows l x) (sym made)
    (record { looked = λ x h. h; peeked = λ x h. h; cuts = λ place given h. h })

-- passes for the callers of these rows are fresh
pub core_passes_are_fresh : {P T : Type 0} (r : Rows P)
    (fits : T → ℕ → ℕ → ℕ → List Object_step → Type 0) (operations : List (List ℕ))
    (passes : List T) → r.callers ≡ length operations
    → ArePassesFor fits r.callers r.cap passes
    → AreFreshPasses r (fits_inside fits) (λ pass. None) operations passes
core_passes_are_fresh r fits operations passes callers all =
    record {
      as_many = all.count ∙ callers;
      each = λ i pass there. record { fits_caller = all.fit i pass there; counts = tt };
    }
