use Rattle.std.proofs.Common.{◌≡◌, ◌↔◌, IsSome, IfSome, Option, Some, sym, subst, ap, ◌∙◌}
use Rattle.call_handles.specs.declared.handle.Handle.{Handle}
use Rattle.call_handles.specs.Callers.{HasAnnounced}
use Rattle.call_handles.specs.Slots.{handle_in, IsCallers, Ends}
use Rattle.call_handles.proofs.calls.answered_in.Goals as goal

pub returns-clause-when : goal.returns-clause-when
returns-clause-when c =
    let was : handle_in c.args.slot ≡ Some c.deref_mut.result.now =
    c.take-handle.ensures.value ∙ ap Some (sym c.deref_mut.ensures.value) in
    subst
    (λ (found : Option Handle). IsSome c.replace_with-answer.result ↔ IsCallers HasAnnounced found)
    (sym was) c.replace_with-answer.ensures.1.0

pub returns-clause-ended : goal.returns-clause-ended
returns-clause-ended c =
    let reply = c.args.given.1 in
    let was : handle_in c.args.slot ≡ Some c.deref_mut.result.now =
    c.take-handle.ensures.value ∙ ap Some (sym c.deref_mut.ensures.value) in
    subst (λ (found : Option Handle). IfSome c.replace_with-answer.result
    (λ answer. Ends reply answer found (handle_in c.of.result))) (sym was)
    (subst (λ (left : Option Handle). IfSome c.replace_with-answer.result
    (λ answer. Ends reply answer (Some c.deref_mut.result.now) left)) (sym c.of.ensures)
    c.replace_with-answer.ensures.1.1.0)
