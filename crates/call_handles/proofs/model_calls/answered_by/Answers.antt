use Rattle.std.proofs.Common.{IsSome, Some, refl, ap}
use Rattle.std.proofs.lemmas.Option.{IfSome_then}
use Rattle.std.proofs.lemmas.Result.{IfOk-weaker, IfErr-weaker}
use Rattle.model_callers.specs.Callers.{HasAnnounced, IsToBeJudged, IsHalted}
use Rattle.call_handles.specs.declared.handle.Handle.TheVariants.{Modelled}
use Rattle.call_handles.specs.Slots.{AreModelled}
use Rattle.call_handles.proofs.Sorts.{modelled_iff}
use Rattle.call_handles.proofs.model_calls.answered_by.Goals as goal

pub returns-in-Modelled-clause-when : goal.returns-in-Modelled-clause-when
returns-in-Modelled-clause-when c =
    modelled_iff (IsSome c.answered-caller.result.1) HasAnnounced
    (Some c.args.handle) c.in-Modelled.caller (ap Some c.in-Modelled.is)
    c.answered-caller.ensures.when

pub returns-in-Modelled-clause-judging : goal.returns-in-Modelled-clause-judging
returns-in-Modelled-clause-judging c =
    let h = c.in-Modelled.caller in
    let k = c.answered-caller.result.0 in
    let reply = c.args.given.1 in
    IfSome_then c.answered-caller.result.1 c.answered-caller.ensures.judging
    (λ answer judging. IfOk-weaker answer (λ _. IsToBeJudged reply h k)
    (λ _. AreModelled (IsToBeJudged reply) (Some c.args.handle) (Some (Modelled k)))
    (λ _ is. (h, k, ap Some c.in-Modelled.is, refl, c.answered-caller.ensures.same.0, is)) judging)

pub returns-in-Modelled-clause-halted : goal.returns-in-Modelled-clause-halted
returns-in-Modelled-clause-halted c =
    let h = c.in-Modelled.caller in
    let k = c.answered-caller.result.0 in
    let reply = c.args.given.1 in
    IfSome_then c.answered-caller.result.1 c.answered-caller.ensures.halted
    (λ answer halted. IfErr-weaker answer (λ _. IsHalted reply h k)
    (λ _. AreModelled (IsHalted reply) (Some c.args.handle) (Some (Modelled k)))
    (λ _ is. (h, k, ap Some c.in-Modelled.is, refl, c.answered-caller.ensures.same.0, is)) halted)
