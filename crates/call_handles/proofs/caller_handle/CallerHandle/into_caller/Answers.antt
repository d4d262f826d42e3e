use Rattle.std.proofs.Common.{subst}
use Rattle.call_handles.specs.declared.stage.HandleStage.{HandleStage}
use Rattle.announced_calls.specs.Outside.{every_reply}
use Rattle.call_handles.specs.Callers.{rows_of, IsSoundAt}
use Rattle.call_handles.proofs.caller_handle.CallerHandle.into_caller.Goals as goal

pub returns-in-Announced-clause-caller : goal.returns-in-Announced-clause-caller
returns-in-Announced-clause-caller c =
    let self = c.args.self in
    let stands =
    subst (λ (s : HandleStage). IsSoundAt (rows_of self) self.kept.kind self.kept.gathered s)
    c.in-Announced.is c.requires.sound.0 in
    c.stop.ensures.same.rows every_reply (rows_of self) stands.0

pub returns-in-Announced-clause-stance : goal.returns-in-Announced-clause-stance
returns-in-Announced-clause-stance c =
    λ none. absurd (none (c.in-Announced.call, c.in-Announced.is))
