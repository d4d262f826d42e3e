use Rattle.std.proofs.Common.{IsTrue, Some, refl, ap}
use Rattle.model_callers.specs.Callers.{MayAnnounce}
use Rattle.call_handles.proofs.Sorts.{modelled_iff}
use Rattle.call_handles.proofs.model_calls.announced_by.Goals as goal

pub returns-in-Modelled-clause-when : goal.returns-in-Modelled-clause-when
returns-in-Modelled-clause-when c =
    modelled_iff (IsTrue c.announce-caller.result.1) MayAnnounce
    (Some c.args.handle) c.in-Modelled.caller (ap Some c.in-Modelled.is)
    c.announce-caller.ensures.when

pub returns-in-Modelled-clause-begun : goal.returns-in-Modelled-clause-begun
returns-in-Modelled-clause-begun c = λ yes. (
  c.in-Modelled.caller,
  c.announce-caller.result.0,
  ap Some c.in-Modelled.is,
  refl,
  c.announce-caller.ensures.same.0,
  c.announce-caller.ensures.begun yes,
)
