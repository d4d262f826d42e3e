use Rattle.std.proofs.Common.{◌≡◌, ◌↔◌, IsTrue, Option, Some, sym, subst, ap, ◌∙◌}
use Rattle.call_handles.specs.declared.handle.Handle.{Handle}
use Rattle.call_handles.specs.Callers.{MayAnnounce}
use Rattle.call_handles.specs.Slots.{handle_in, IsCallers, Begins}
use Rattle.call_handles.proofs.calls.announced_in.Goals as goal

pub returns-clause-when : goal.returns-clause-when
returns-clause-when c =
    let was : handle_in c.args.slot ≡ Some c.deref_mut.result.now =
    c.take-handle.ensures.value ∙ ap Some (sym c.deref_mut.ensures.value) in
    subst
    (λ (found : Option Handle). IsTrue c.replace_with-begun.result ↔ IsCallers MayAnnounce found)
    (sym was) c.replace_with-begun.ensures.1.0

pub returns-clause-begun : goal.returns-clause-begun
returns-clause-begun c = λ yes.
    let op = c.args.given.1 in
    let was : handle_in c.args.slot ≡ Some c.deref_mut.result.now =
    c.take-handle.ensures.value ∙ ap Some (sym c.deref_mut.ensures.value) in
    subst (λ (found : Option Handle). Begins op found (handle_in c.of.result)) (sym was)
    (subst (λ (left : Option Handle). Begins op (Some c.deref_mut.result.now) left)
    (sym c.of.ensures) (c.replace_with-begun.ensures.1.1.0 yes))
