use Rattle.std.proofs.Common.{IsTrue, Some, refl, ap}
use Rattle.call_handles.specs.Callers.{MayAnnounce}
use Rattle.call_handles.proofs.Sorts.{callers_iff}
use Rattle.call_handles.proofs.calls.announced_by.Goals as goal

pub returns-in-Caller-clause-when : goal.returns-in-Caller-clause-when
returns-in-Caller-clause-when c =
    callers_iff (IsTrue c.announce-caller.result.1) MayAnnounce
    (Some c.args.handle) c.in-Caller.caller (ap Some c.in-Caller.is) c.announce-caller.ensures.when

pub returns-in-Caller-clause-begun : goal.returns-in-Caller-clause-begun
returns-in-Caller-clause-begun c = λ yes. (
  c.in-Caller.caller,
  c.announce-caller.result.0,
  ap Some c.in-Caller.is,
  refl,
  c.announce-caller.ensures.same,
  c.announce-caller.ensures.begun yes,
)
