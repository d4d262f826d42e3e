use Rattle.std.proofs.Common.{◌≡◌, ◌↔◌, IsSome, IfSome, Option, Some, sym, subst, ap, ◌∙◌}
use Rattle.call_handles.specs.declared.handle.Handle.{Handle}
use Rattle.call_handles.specs.Slots.{handle_in, MayServe, HasServed}
use Rattle.call_handles.proofs.models.served_in.Goals as goal

pub returns-clause-when : goal.returns-clause-when
returns-clause-when c =
    let was : handle_in c.args.slot ≡ Some c.deref_mut.result.now =
    c.take-handle.ensures.value ∙ ap Some (sym c.deref_mut.ensures.value) in
    subst (λ (found : Option Handle). IsSome c.replace_with-reply.result
    ↔ MayServe c.args.given.1 found) (sym was) c.replace_with-reply.ensures.1.0

pub returns-clause-served : goal.returns-clause-served
returns-clause-served c =
    let request = c.args.given.1 in
    let was : handle_in c.args.slot ≡ Some c.deref_mut.result.now =
    c.take-handle.ensures.value ∙ ap Some (sym c.deref_mut.ensures.value) in
    subst (λ (found : Option Handle). IfSome c.replace_with-reply.result
    (λ reply. HasServed request reply found (handle_in c.of.result))) (sym was)
    (subst (λ (left : Option Handle). IfSome c.replace_with-reply.result
    (λ reply. HasServed request reply (Some c.deref_mut.result.now) left)) (sym c.of.ensures)
    c.replace_with-reply.ensures.1.1.0)
