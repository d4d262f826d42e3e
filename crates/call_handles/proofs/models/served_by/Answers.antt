use Rattle.std.proofs.Common.{◌↔◌, IsSome, Some, inl, inr, refl, sym, ap, subst}
use Rattle.std.proofs.lemmas.Option.{IfSome_then}
use Rattle.call_handles.specs.declared.handle.Handle.{Handle}
use Rattle.call_handles.specs.Slots.{MayServe}
use Rattle.call_handles.proofs.models.served_by.Goals as goal

pub returns-in-Model-clause-when : goal.returns-in-Model-clause-when
returns-in-Model-clause-when c = (
  λ _. subst (λ (h : Handle). MayServe c.args.given.1 (Some h)) (sym c.in-Model.is) tt,
  λ _. refl,
)

pub returns-in-Model-clause-served : goal.returns-in-Model-clause-served
returns-in-Model-clause-served c = inl (
  c.in-Model.check,
  c.serve-reply.new.self,
  ap Some c.in-Model.is,
  refl,
  c.serve-reply.ensures.served,
)

pub returns-in-Modelled-clause-when : goal.returns-in-Modelled-clause-when
returns-in-Modelled-clause-when c =
    subst (λ (h : Handle). IsSome c.serve-caller.result.1 ↔ MayServe c.args.given.1 (Some h))
    (sym c.in-Modelled.is) c.serve-caller.ensures.when

pub returns-in-Modelled-clause-served : goal.returns-in-Modelled-clause-served
returns-in-Modelled-clause-served c =
    IfSome_then c.serve-caller.result.1 c.serve-caller.ensures.served (λ reply served. inr (
      c.in-Modelled.caller,
      c.serve-caller.result.0,
      ap Some c.in-Modelled.is,
      refl,
      c.serve-caller.ensures.same,
      served,
    ))
