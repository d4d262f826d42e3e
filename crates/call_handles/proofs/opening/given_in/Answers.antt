use Rattle.std.proofs.Common.{◌≡◌, ◌↔◌, IsSome, IfSome, IfOk, Option, Some, sym, subst, ap, ◌∙◌}
use Rattle.call_handles.specs.declared.handle.Handle.{Handle}
use Rattle.call_handles.specs.Slots.{handle_in, MayGive, HasGiven}
use Rattle.call_handles.proofs.opening.given_in.Goals as goal

pub returns-clause-when : goal.returns-clause-when
returns-clause-when c =
    let was : handle_in c.args.slot ≡ Some c.deref_mut.result.now =
    c.take-handle.ensures.value ∙ ap Some (sym c.deref_mut.ensures.value) in
    subst (λ (found : Option Handle). IfOk c.replace_with-next.result
    (λ next. IsSome next ↔ MayGive found)) (sym was) c.replace_with-next.ensures.1.0

pub returns-clause-given : goal.returns-clause-given
returns-clause-given c =
    let role = c.args.given.1 in
    let was : handle_in c.args.slot ≡ Some c.deref_mut.result.now =
    c.take-handle.ensures.value ∙ ap Some (sym c.deref_mut.ensures.value) in
    let next = c.replace_with-next in
    subst (λ (found : Option Handle). IfOk next.result
    (λ one. IfSome one (λ h. HasGiven role found (handle_in c.of.result) (Some h)))) (sym was)
    (subst (λ (left : Option Handle). IfOk next.result
    (λ one. IfSome one (λ h. HasGiven role (Some c.deref_mut.result.now) left (Some h))))
    (sym c.of.ensures)
    next.ensures.1.1.0)
