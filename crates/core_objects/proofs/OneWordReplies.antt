-- What a call of an object of one word replies, whichever object it is: bad where its operation
-- makes no step, else the reply of its step.
use Rattle.std.proofs.Common.{◌≡◌, ◌∙◌, ℕ, true, false, [], ◌∷◌, sym, refl, subst}
use Rattle.book_base.specs.declared.TheConstants.{BAD}
use Rattle.world_core.specs.Shape.{Meaning}
use Rattle.world_core.specs.Local.{Local, Object_step}
use Rattle.world_core.specs.CallSteps.{steps_now}
use Rattle.row_table.specs.declared.rows.Rows.{Rows}
use Rattle.row_table.specs.Callers.{who_of, IsCallerOf}
use Rattle.drv_wrapper.specs.declared.announced.Announced.{Announced}
use Rattle.drv_wrapper.specs.States.{caller_announced, announced_local, op_announced}
use Rattle.drv_wrapper.specs.ObjectSteps.{HasStepped}
use Rattle.world_objects.specs.OneWord.{OneWord, one_word_program, one_word_shape}
use Rattle.core_objects.specs.CoreObjects.{HasReplied}
use Rattle.core_objects.proofs.OneWordCalls.{no_steps, no_progress_made, one_step, allows_bad, allows_reply, has_steps}

-- The meaning of programs that each are those of an object of one word.
abbrev pub meaning_by : {P : Type 0} → (P → OneWord) → P → ℕ → ℕ → Meaning
meaning_by o program n cap = one_word_program (o program)

module _ {P : Type 0} (o : P → OneWord) (r : Rows P) (a : Announced P)
    (here : IsCallerOf (meaning_by o) r (caller_announced a))
    (none : steps_now (announced_local a) ≡ []) where
  -- a call whose operation makes no step replies bad
  pub replies_bad : (o r.program).makes_step (op_announced a) ≡ false
      → HasReplied (meaning_by o) r a a BAD
  replies_bad unknown =
      let l : Local = announced_local a in
      let own : (o (caller_announced a).program).makes_step (op_announced a) ≡ false =
      subst (λ (p : P). (o p).makes_step (op_announced a) ≡ false) (sym here.program) unknown in
      record {
        steps = [];
        still = (here, refl);
        operation = refl;
        local = no_steps l none;
        progress = no_progress_made l;
        allowed =
            allows_bad (o (caller_announced a).program) l (op_announced a) a.asked.operation own;
      }

  -- a call whose operation makes a step replies the reply of this step
  pub replies_by_step : (b : Announced P) (step : Object_step) (reply : ℕ)
      → HasStepped (meaning_by o) r a b step → (o r.program).makes_step (op_announced a) ≡ true
      → reply ≡ (o r.program).replies (op_announced a) step.old
      → HasReplied (meaning_by o) r a b reply
  replies_by_step b step reply done known told =
      let l : Local = announced_local a in
      let local = done.event ∙ one_step l step none in
      let own = sym done.still.0.program in
      record {
        steps = step ∷ [];
        still = done.still;
        operation = done.operation;
        local = local;
        progress = done.progress;
        allowed =
            allows_reply (o (caller_announced b).program) l (announced_local b)
            (op_announced a) reply step a.asked.operation local
            (has_steps (one_word_shape r.callers r.cap (o r.program))
            (who_of (caller_announced a)) l (op_announced a) here.seat.local a.asked)
            (subst (λ (p : P). (o p).makes_step (op_announced a) ≡ true) own known)
            (subst (λ (p : P). reply ≡ (o p).replies (op_announced a) step.old) own told);
      }
