use Rattle.std.proofs.Common.{◌≡◌, ◌↔◌, IsTrue, Option, Some, sym, subst, ap, ◌∙◌}
use Rattle.call_handles.specs.declared.handle.Handle.{Handle}
use Rattle.call_handles.specs.Callers.{HasAnnounced}
use Rattle.call_handles.specs.Slots.{handle_in, IsCallers, Publishes}
use Rattle.call_handles.proofs.calls.published_in.Goals as goal

pub returns-clause-when : goal.returns-clause-when
returns-clause-when c =
    let was : handle_in c.args.slot ≡ Some c.deref_mut.result.now =
    c.take-handle.ensures.value ∙ ap Some (sym c.deref_mut.ensures.value) in
    subst (λ (found : Option Handle). IsTrue c.replace_with-published.result
    ↔ IsCallers HasAnnounced found) (sym was) c.replace_with-published.ensures.1.0

pub returns-clause-published : goal.returns-clause-published
returns-clause-published c = λ yes.
    let reply = c.args.given.1 in
    let was : handle_in c.args.slot ≡ Some c.deref_mut.result.now =
    c.take-handle.ensures.value ∙ ap Some (sym c.deref_mut.ensures.value) in
    subst (λ (found : Option Handle). Publishes reply found (handle_in c.of.result)) (sym was)
    (subst (λ (left : Option Handle). Publishes reply (Some c.deref_mut.result.now) left)
    (sym c.of.ensures) (c.replace_with-published.ensures.1.1.0 yes))
