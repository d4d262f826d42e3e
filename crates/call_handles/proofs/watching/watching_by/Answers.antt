use Rattle.std.proofs.Common.{IsTrue, Some, true, false, ap}
use Rattle.call_handles.specs.Callers.{IsBetweenCalls}
use Rattle.call_handles.proofs.Sorts.{callers_iff}
use Rattle.call_handles.proofs.watching.watching_by.Goals as goal

pub returns-in-Ok-clause-when : goal.returns-in-Ok-clause-when
returns-in-Ok-clause-when c =
    callers_iff (IsTrue true) IsBetweenCalls (Some c.args.handle) c.in-Caller.caller
    (ap Some c.in-Caller.is) c.in-Ok.ensures.when

pub returns-in-Err-clause-when : goal.returns-in-Err-clause-when
returns-in-Err-clause-when c =
    callers_iff (IsTrue false) IsBetweenCalls (Some c.args.handle) c.in-Caller.caller
    (ap Some c.in-Caller.is) c.in-Err.ensures.when
