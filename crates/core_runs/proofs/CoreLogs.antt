-- The calls of every run of a log are in one log.
use Rattle.std.proofs.Common.{◌≡◌, ℕ, ◌%◌, ◌<◌, List, [], Some, slice_index_or, refl, sym, ap, ◌∙◌, subst, arith}
use Rattle.book_base.specs.SeqSpec.{SeqSpec}
use Rattle.world_core.specs.Shape.{Shape}
use Rattle.world_core.specs.Local.{Local}
use Rattle.world_core.specs.World.{World, Step, local_of, IsRun, end_of, IsReachable}
use Rattle.world_core.specs.History.{call_of}
use Rattle.world_core.specs.Calls.{calls_in, local_at}
use Rattle.report_lines.specs.Phases.{judged, HasMade}
use Rattle.client_calls.specs.Finishing.{KeepsAsked}
use Rattle.world_objects.specs.LogProgram.{log_shape}
use Rattle.world_objects.specs.LogEffects.{log_effects}
use Rattle.world_objects.proofs.LogOrders.{no_reply_without_steps, reply_where_allowed, log_orders_are_of_tickets}
use Rattle.test_objects.specs.Replays.{last_reply}
use Rattle.core_runs.specs.Logged.{IsLoggedBy}
use Rattle.core_runs.specs.Runs.{RunsOfLogsAreLogged}
use Rattle.core_runs.proofs.Answers.{has_begun}
use Rattle.core_runs.proofs.Logging.{TakesEffectAsAsked, effects_are_logged}

module _ (spec : SeqSpec) (n cap : ℕ) where
  abbrev s : Shape
  s = log_shape spec n cap

  -- the call under way has its ticket in the log where it was asked, and has none where it wasn't
  as_asked : (w : World) → IsReachable s w → (i : ℕ) → i < n → (operations : List ℕ) (p : ℕ)
      → HasMade operations p (local_of w i) → KeepsAsked s.program i p (local_of w i)
      → TakesEffectAsAsked (log_effects spec n cap) w i p
  as_asked w reach i low operations p made kept =
      let l : Local = local_of w i in
      let reply : ℕ → Type 0 =
      λ k. (x : ℕ) × ((log_effects spec n cap).reply w (call_of i k) ≡ Some x) in
      let now : p % 5 ≡ 1 → l.published ≡ judged p =
      λ place. omega (arith, made.published, place) in
      let then : p % 5 ≡ 2 → l.published ≡ judged p =
      λ place. omega (arith, made.published, place) in
      record {
        unasked = λ place.
            no_reply_without_steps spec n cap w reach i (judged p)
            (ap (λ (k : ℕ). slice_index_or l.object_steps k []) (sym (now place))
            ∙ kept.unasked place);
        asked_for = λ place.
            let allowed = kept.asked place in
            subst reply (then place)
            (reply_where_allowed spec n cap w reach i allowed.0 low
            (omega (arith, then place, place, has_begun operations p l made)) allowed.1);
      }

  -- the calls at the end of a run are in one log
  at_the_end : (steps : List Step) → IsRun s steps → (operations : ℕ → List ℕ) (phases : ℕ → ℕ)
      → ((i : ℕ) → i < n → HasMade (operations i) (phases i) (local_of (end_of s steps) i))
      → ((i : ℕ) → i < n → KeepsAsked s.program i (phases i) (local_of (end_of s steps) i))
      → IsLoggedBy (last_reply spec.next spec.init) n phases
      (λ i. calls_in (local_of (end_of s steps) i))
  at_the_end steps run operations phases made kept =
      let found = log_orders_are_of_tickets spec n cap steps run in
      effects_are_logged spec s
      (log_effects spec n cap) steps run found.0 found.1 found.2 operations phases made
      (λ i low. as_asked (end_of s steps) (steps, run, refl) i low (operations i) (phases i)
      (made i low) (kept i low))

pub runs_of_logs_are_logged : RunsOfLogsAreLogged
runs_of_logs_are_logged spec n cap operations phases locals h kept =
    let t = h.together in
    let reach = t.1 in
    let sh : Shape = log_shape spec n cap in
    let same : (end_of sh reach.0).locals ≡ locals = ap (λ (w : World). w.locals) reach.2 ∙ t.2 in
    subst (λ (ls : List Local).
    IsLoggedBy (last_reply spec.next spec.init) n phases (λ i. calls_in (local_at ls i))) same
    (at_the_end spec n cap reach.0 reach.1 operations phases
    (λ i low. subst (λ (ls : List Local). HasMade (operations i) (phases i) (local_at ls i))
    (sym same) (h.made i low))
    (λ i low. subst (λ (ls : List Local). KeepsAsked sh.program i (phases i) (local_at ls i))
    (sym same) (kept i low)))
