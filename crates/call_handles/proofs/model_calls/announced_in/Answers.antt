use Rattle.std.proofs.Common.{◌≡◌, ◌↔◌, IsTrue, Option, Some, sym, subst, ap, ◌∙◌}
use Rattle.model_callers.specs.Callers.{MayAnnounce, HasBegun}
use Rattle.call_handles.specs.declared.handle.Handle.{Handle}
use Rattle.call_handles.specs.Slots.{handle_in, IsModelled, AreModelled}
use Rattle.call_handles.proofs.model_calls.announced_in.Goals as goal

pub returns-clause-when : goal.returns-clause-when
returns-clause-when c =
    let was : handle_in c.args.slot ≡ Some c.deref_mut.result.now =
    c.take-handle.ensures.value ∙ ap Some (sym c.deref_mut.ensures.value) in
    subst
    (λ (found : Option Handle). IsTrue c.replace_with-begun.result ↔ IsModelled MayAnnounce found)
    (sym was) c.replace_with-begun.ensures.1.0

pub returns-clause-begun : goal.returns-clause-begun
returns-clause-begun c = λ yes.
    let begun = HasBegun c.args.given.1 in
    let was : handle_in c.args.slot ≡ Some c.deref_mut.result.now =
    c.take-handle.ensures.value ∙ ap Some (sym c.deref_mut.ensures.value) in
    subst (λ (found : Option Handle). AreModelled begun found (handle_in c.of.result)) (sym was)
    (subst (λ (left : Option Handle). AreModelled begun (Some c.deref_mut.result.now) left)
    (sym c.of.ensures) (c.replace_with-begun.ensures.1.1.0 yes))
