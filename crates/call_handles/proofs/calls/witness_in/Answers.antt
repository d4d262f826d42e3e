use Rattle.std.proofs.Common.{◌≡◌, ◌↔◌, IsSome, IfSome, IfOk, Option, Some, sym, subst, ap, ◌∙◌}
use Rattle.call_handles.specs.declared.handle.Handle.{Handle}
use Rattle.call_handles.specs.Slots.{handle_in, HasWitness, Witnesses}
use Rattle.call_handles.proofs.calls.witness_in.Goals as goal

pub returns-clause-when : goal.returns-clause-when
returns-clause-when c =
    let was : handle_in c.args.slot ≡ Some c.deref.result.now =
    c.take-handle.ensures.value ∙ ap Some (sym c.deref.ensures) in
    subst (λ (place : Option Handle). IfOk c.witness_of-found.result
    (λ found. IsSome found ↔ HasWitness place)) (sym was) c.witness_of-found.ensures.when

pub returns-clause-text : goal.returns-clause-text
returns-clause-text c =
    let was : handle_in c.args.slot ≡ Some c.deref.result.now =
    c.take-handle.ensures.value ∙ ap Some (sym c.deref.ensures) in
    subst (λ (place : Option Handle).
    IfOk c.witness_of-found.result (λ found. IfSome found (λ text. Witnesses place text.items)))
    (sym was) c.witness_of-found.ensures.text
