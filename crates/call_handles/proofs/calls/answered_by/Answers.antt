use Rattle.std.proofs.Common.{IsSome, Some, refl, ap}
use Rattle.std.proofs.lemmas.Option.{IfSome_then}
use Rattle.call_handles.specs.Callers.{HasAnnounced}
use Rattle.call_handles.proofs.Sorts.{callers_iff}
use Rattle.call_handles.proofs.calls.answered_by.Goals as goal

pub returns-in-Caller-clause-when : goal.returns-in-Caller-clause-when
returns-in-Caller-clause-when c =
    callers_iff (IsSome c.answered-caller.result.1) HasAnnounced
    (Some c.args.handle) c.in-Caller.caller (ap Some c.in-Caller.is) c.answered-caller.ensures.when

pub returns-in-Caller-clause-ended : goal.returns-in-Caller-clause-ended
returns-in-Caller-clause-ended c =
    IfSome_then c.answered-caller.result.1 c.answered-caller.ensures.ended
    (λ answer ended. (
      c.in-Caller.caller,
      c.answered-caller.result.0,
      ap Some c.in-Caller.is,
      refl,
      c.answered-caller.ensures.same,
      ended,
    ))
