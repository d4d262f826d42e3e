-- What a call has in the phase ask, at an object step, and as it returns.
use Rattle.std.proofs.Common.{◌≡◌, ℕ, ◌+◌, ◌<◌, true, ◌&&◌, nat_lt, length, Some, slice_get, ap, ◌∙◌, subst, arith, IsTrue}
use Rattle.std.proofs.lemmas.Bool.{and_parts, eqb-true, ltb-true}
use Rattle.std.proofs.lemmas.Option.{slice_get-get_or}
use Rattle.world_core.specs.declared.region.Region.TheVariants.{N}
use Rattle.world_core.specs.Shape.{Shape}
use Rattle.world_core.specs.Local.{Phase, Local, Object_step}
use Rattle.world_core.specs.CallSteps.{operation_now}
use Rattle.world_core.specs.Event.{Object, Begins_view, is_asking, is_word, may_begin}
use Rattle.world_core.specs.Agreement.{unpublished_calls, unpublished_replies}
use Rattle.world_core.specs.World.{World, start, local_of, object_word, is_possible, IsReachable}
use Rattle.world_laws.specs.Views.{return_of}
use Rattle.world_laws.proofs.Agreeing.{asking_is}
use Rattle.world_laws.proofs.Running.{Kept, start_kept, steps_kept, possible}

-- every reachable world keeps its shape, and its locals agree with its words
pub reachable_kept : (s : Shape) (w : World) → IsReachable s w → Kept s w
reachable_kept s w (steps, run, at) =
    subst (Kept s) at (steps_kept s (start s) steps (start_kept s) run)

-- What a caller has in the phase ask: its call is that of the next record, and is announced,
-- without a reply.
pub record IsAsked (s : Shape) (l : Local) : Type 0 where
  pub few : l.published < s.cap
  pub operation : slice_get l.operations l.published ≡ Some (operation_now l)
  pub has_steps : l.published < length l.object_steps
  pub replies : length l.replies ≡ l.published

pub asked : (s : Shape) (w : World) (i : ℕ) → Kept s w → i < s.callers
    → is_asking (local_of w i).phase ≡ true → IsAsked s (local_of w i)
asked s w i kept low asking =
    let l : Local = local_of w i in
    let h = (kept.agree i low).phase in
    let few = (kept.agree i low).few in
    let phase = asking_is l.phase asking in
    let calls : l.announced ≡ l.published + 1 =
    h.announced ∙ ap (λ (p : Phase). l.published + unpublished_calls p) phase in
    let replies : length l.replies ≡ l.published + 0 =
    h.replies ∙ ap (λ (p : Phase). l.published + unpublished_replies p) phase in
    record {
      few = omega (arith, few, calls);
      operation = slice_get-get_or l.operations l.published 0 (omega (arith, h.operations, calls));
      has_steps = omega (arith, h.object_steps, calls);
      replies = omega (arith, replies);
    }

-- A caller's object step is enabled: the call under way is asked, the program allows it this step,
-- and the step finds the word that is at its place.
pub record IsObjectStep (s : Shape) (w : World) (who : ℕ) (step : Object_step) : Type 0 where
  pub caller : who < s.callers
  pub call : IsAsked s (local_of w who)
  pub place : step.place < s.program.objects
  pub allowed : IsTrue (s.program.may_step who (local_of w who) step)
  pub found : step.old ≡ object_word s w step.place

pub object_step : (s : Shape) (w : World) (who : ℕ) (step : Object_step) → Kept s w
    → IsTrue (is_possible s w (record { who = who; event = Object step }))
    → IsObjectStep s w who step
object_step s w who step kept may =
    let l : Local = local_of w who in
    let p = possible s w (record { who = who; event = Object step }) may in
    let a = and_parts (is_asking l.phase) (nat_lt step.place s.program.objects
    && (is_word step.new && s.program.may_step who l step)) p.allowed in
    let b = and_parts (nat_lt step.place s.program.objects)
    (is_word step.new && s.program.may_step who l step) a.1 in
    let c = and_parts (is_word step.new) (s.program.may_step who l step) b.1 in
    record {
      caller = p.caller;
      call = asked s w who kept p.caller a.0;
      place = ltb-true step.place s.program.objects b.0;
      allowed = c.1;
      found = eqb-true step.old (object_word s w step.place) p.loaded;
    }

-- A caller's return is enabled: the call under way is asked, and the program allows it this reply.
pub record IsReturn (s : Shape) (w : World) (i reply : ℕ) : Type 0 where
  pub caller : i < s.callers
  pub call : IsAsked s (local_of w i)
  pub allowed : IsTrue (s.program.may_reply i (local_of w i) reply)

pub return : (s : Shape) (w : World) (i x reply : ℕ) → Kept s w
    → IsTrue (is_possible s w (return_of i x reply)) → IsReturn s w i reply
return s w i x reply kept may =
    let l : Local = local_of w i in
    let p = possible s w (return_of i x reply) may in
    let a = and_parts (nat_lt 0 s.callers) (may_begin s i l N 0 (Begins_view reply)) p.allowed in
    let b = and_parts (is_asking l.phase) (is_word reply && s.program.may_reply i l reply) a.1 in
    let c = and_parts (is_word reply) (s.program.may_reply i l reply) b.1 in
    record { caller = p.caller; call = asked s w i kept p.caller b.0; allowed = c.1 }
