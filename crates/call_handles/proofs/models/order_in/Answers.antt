use Rattle.std.proofs.Common.{◌≡◌, ◌↔◌, IsSome, IfSome, IfOk, Option, Some, sym, subst, ap, ◌∙◌}
use Rattle.call_handles.specs.declared.handle.Handle.{Handle}
use Rattle.model_checks.specs.Checks.{HasOrder, IsOrderOf}
use Rattle.call_handles.specs.Slots.{handle_in, IsModels}
use Rattle.call_handles.proofs.models.order_in.Goals as goal

pub returns-clause-when : goal.returns-clause-when
returns-clause-when c =
    let was : handle_in c.args.slot ≡ Some c.deref.result.now =
    c.take-handle.ensures.value ∙ ap Some (sym c.deref.ensures) in
    subst (λ (place : Option Handle). IfOk c.order_of-found.result
    (λ found. IsSome found ↔ IsModels HasOrder place)) (sym was) c.order_of-found.ensures.when

pub returns-clause-order : goal.returns-clause-order
returns-clause-order c =
    let was : handle_in c.args.slot ≡ Some c.deref.result.now =
    c.take-handle.ensures.value ∙ ap Some (sym c.deref.ensures) in
    subst (λ (place : Option Handle). IfOk c.order_of-found.result
    (λ found. IfSome found (λ calls. IsModels (IsOrderOf calls.items) place))) (sym was)
    c.order_of-found.ensures.order
