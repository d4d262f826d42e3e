use Rattle.std.proofs.Common.{refl, subst, arith}
use Rattle.row_table.specs.declared.rows.Rows.{Rows}
use Rattle.row_table.specs.Callers.{local_with}
use Rattle.row_gather.proofs.Kept.{gathered_by_stays}
use Rattle.drv_wrapper.specs.States.{announced_local}
use Rattle.call_handles.specs.declared.stage.HandleStage.{HandleStage}
use Rattle.announced_calls.specs.Outside.{every_reply}
use Rattle.call_handles.specs.Callers.{rows_of, IsSoundAt}
use Rattle.announced_calls.specs.Ends.{IsAnnouncedBy}
use Rattle.call_handles.proofs.caller_handle.CallerHandle.announce.Goals as goal

pub returns-else-left-eq0-clause-sound : goal.returns-else-left-eq0-clause-sound
returns-else-left-eq0-clause-sound c =
    let self = c.args.self in
    let stands =
    subst (λ (s : HandleStage). IsSoundAt (rows_of self) self.kept.kind self.kept.gathered s)
    c.in-Idle.is c.requires.sound.0 in
    let begun = subst
    (λ (r : Rows _). IsAnnouncedBy every_reply r c.in-Idle.caller c.args.op c.announce_alone.result)
    c.deref.ensures c.announce_alone.ensures in (
      (
        begun.still.0,
        gathered_by_stays (local_with c.in-Idle.caller)
            (announced_local c.announce_alone.result) self.kept.gathered
            begun.grows.peeked stands.2,
      ),
      c.requires.sound.1,
    )

pub returns-else-left-eq0-clause-when : goal.returns-else-left-eq0-clause-when
returns-else-left-eq0-clause-when c =
    let self = c.args.self in
    let stands =
    subst (λ (s : HandleStage). IsSoundAt (rows_of self) self.kept.kind self.kept.gathered s)
    c.in-Idle.is c.requires.sound.0 in (
      λ _. (
        c.in-Idle.caller,
        c.in-Idle.is,
        omega (arith, c.left.ensures, c.if-left-eq0.false, stands.0.cap),
      ),
      λ _. refl,
    )

pub returns-else-left-eq0-clause-begun : goal.returns-else-left-eq0-clause-begun
returns-else-left-eq0-clause-begun c = λ _.
    let begun = subst
    (λ (r : Rows _). IsAnnouncedBy every_reply r c.in-Idle.caller c.args.op c.announce_alone.result)
    c.deref.ensures c.announce_alone.ensures in
    (c.in-Idle.caller, c.announce_alone.result, c.in-Idle.is, refl, begun)
