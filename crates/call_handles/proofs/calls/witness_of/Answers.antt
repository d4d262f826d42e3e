use Rattle.std.proofs.Common.{◌↔◌, IsSome, IfSome, IfOk, Some, sym, subst}
use Rattle.call_handles.specs.declared.handle.Handle.{Handle}
use Rattle.call_handles.specs.Slots.{HasWitness, Witnesses}
use Rattle.call_handles.proofs.calls.witness_of.Goals as goal

pub returns-in-Caller-clause-when : goal.returns-in-Caller-clause-when
returns-in-Caller-clause-when c =
    subst (λ (h : Handle). IfOk c.witness.result (λ found. IsSome found ↔ HasWitness (Some h)))
    (sym c.in-Caller.is) c.witness.ensures.when

pub returns-in-Caller-clause-text : goal.returns-in-Caller-clause-text
returns-in-Caller-clause-text c =
    subst (λ (h : Handle).
    IfOk c.witness.result (λ found. IfSome found (λ text. Witnesses (Some h) text.items)))
    (sym c.in-Caller.is) c.witness.ensures.text

pub returns-in-Monitor-clause-when : goal.returns-in-Monitor-clause-when
returns-in-Monitor-clause-when c =
    subst
    (λ (h : Handle). IfOk c.witness-in-Monitor.result (λ found. IsSome found ↔ HasWitness (Some h)))
    (sym c.in-Monitor.is) c.witness-in-Monitor.ensures.when

pub returns-in-Monitor-clause-text : goal.returns-in-Monitor-clause-text
returns-in-Monitor-clause-text c =
    subst (λ (h : Handle). IfOk c.witness-in-Monitor.result
    (λ found. IfSome found (λ text. Witnesses (Some h) text.items)))
    (sym c.in-Monitor.is) c.witness-in-Monitor.ensures.text

pub returns-in-Modelled-clause-when : goal.returns-in-Modelled-clause-when
returns-in-Modelled-clause-when c =
    subst (λ (h : Handle).
    IfOk c.witness-in-Modelled.result (λ found. IsSome found ↔ HasWitness (Some h)))
    (sym c.in-Modelled.is) c.witness-in-Modelled.ensures.when

pub returns-in-Modelled-clause-text : goal.returns-in-Modelled-clause-text
returns-in-Modelled-clause-text c =
    subst (λ (h : Handle). IfOk c.witness-in-Modelled.result
    (λ found. IfSome found (λ text. Witnesses (Some h) text.items)))
    (sym c.in-Modelled.is) c.witness-in-Modelled.ensures.text
