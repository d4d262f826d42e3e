use Rattle.std.proofs.Common.{IsTrue, Some, refl, ap}
use Rattle.call_handles.specs.Callers.{HasAnnounced}
use Rattle.call_handles.proofs.Sorts.{callers_iff}
use Rattle.call_handles.proofs.calls.published_by.Goals as goal

pub returns-in-Caller-clause-when : goal.returns-in-Caller-clause-when
returns-in-Caller-clause-when c =
    callers_iff (IsTrue c.publish-caller.result.1) HasAnnounced
    (Some c.args.handle) c.in-Caller.caller (ap Some c.in-Caller.is) c.publish-caller.ensures.when

pub returns-in-Caller-clause-published : goal.returns-in-Caller-clause-published
returns-in-Caller-clause-published c = λ yes. (
  c.in-Caller.caller,
  c.publish-caller.result.0,
  ap Some c.in-Caller.is,
  refl,
  c.publish-caller.ensures.same,
  c.publish-caller.ensures.published yes,
)
