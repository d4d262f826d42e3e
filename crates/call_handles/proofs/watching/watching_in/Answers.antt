use Rattle.std.proofs.Common.{◌≡◌, ◌↔◌, IsTrue, Option, Some, sym, subst, ap, ◌∙◌}
use Rattle.call_handles.specs.declared.handle.Handle.{Handle}
use Rattle.call_handles.specs.Callers.{IsBetweenCalls}
use Rattle.call_handles.specs.Slots.{handle_in, IsCallers, BecomesMonitor}
use Rattle.call_handles.proofs.watching.watching_in.Goals as goal

pub returns-clause-when : goal.returns-clause-when
returns-clause-when c =
    let was : handle_in c.args.slot ≡ Some c.deref_mut.result.now =
    c.take-handle.ensures.value ∙ ap Some (sym c.deref_mut.ensures.value) in
    subst (λ (found : Option Handle).
    IsTrue c.replace_with-watching.result ↔ IsCallers IsBetweenCalls found)
    (sym was) c.replace_with-watching.ensures.1.0

pub returns-clause-watching : goal.returns-clause-watching
returns-clause-watching c = λ yes.
    let was : handle_in c.args.slot ≡ Some c.deref_mut.result.now =
    c.take-handle.ensures.value ∙ ap Some (sym c.deref_mut.ensures.value) in
    subst (λ (found : Option Handle). BecomesMonitor found (handle_in c.of.result)) (sym was)
    (subst (λ (left : Option Handle). BecomesMonitor (Some c.deref_mut.result.now) left)
    (sym c.of.ensures) (c.replace_with-watching.ensures.1.1.0 yes))
