use Rattle.std.proofs.Common.{◌≡◌, ◌↔◌, IsSome, IfSome, IfOk, IfErr, Option, Some, sym, subst, ap, ◌∙◌}
use Rattle.model_callers.specs.Callers.{HasAnnounced, IsToBeJudged, IsHalted}
use Rattle.call_handles.specs.declared.handle.Handle.{Handle}
use Rattle.call_handles.specs.Slots.{handle_in, IsModelled, AreModelled}
use Rattle.call_handles.proofs.model_calls.answered_in.Goals as goal

pub returns-clause-when : goal.returns-clause-when
returns-clause-when c =
    let was : handle_in c.args.slot ≡ Some c.deref_mut.result.now =
    c.take-handle.ensures.value ∙ ap Some (sym c.deref_mut.ensures.value) in
    subst
    (λ (found : Option Handle). IsSome c.replace_with-answer.result ↔ IsModelled HasAnnounced found)
    (sym was) c.replace_with-answer.ensures.1.0

pub returns-clause-judging : goal.returns-clause-judging
returns-clause-judging c =
    let judged = IsToBeJudged c.args.given.1 in
    let was : handle_in c.args.slot ≡ Some c.deref_mut.result.now =
    c.take-handle.ensures.value ∙ ap Some (sym c.deref_mut.ensures.value) in
    subst (λ (found : Option Handle). IfSome c.replace_with-answer.result
    (λ answer. IfOk answer (λ _. AreModelled judged found (handle_in c.of.result)))) (sym was)
    (subst (λ (left : Option Handle). IfSome c.replace_with-answer.result
    (λ answer. IfOk answer (λ _. AreModelled judged (Some c.deref_mut.result.now) left)))
    (sym c.of.ensures) c.replace_with-answer.ensures.1.1.0)

pub returns-clause-halted : goal.returns-clause-halted
returns-clause-halted c =
    let halted = IsHalted c.args.given.1 in
    let was : handle_in c.args.slot ≡ Some c.deref_mut.result.now =
    c.take-handle.ensures.value ∙ ap Some (sym c.deref_mut.ensures.value) in
    subst (λ (found : Option Handle). IfSome c.replace_with-answer.result
    (λ answer. IfErr answer (λ _. AreModelled halted found (handle_in c.of.result)))) (sym was)
    (subst (λ (left : Option Handle). IfSome c.replace_with-answer.result
    (λ answer. IfErr answer (λ _. AreModelled halted (Some c.deref_mut.result.now) left)))
    (sym c.of.ensures) c.replace_with-answer.ensures.1.1.1.0)
