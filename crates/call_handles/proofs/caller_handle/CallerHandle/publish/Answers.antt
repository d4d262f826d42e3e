use Rattle.std.proofs.Common.{refl, subst}
use Rattle.row_table.specs.declared.rows.Rows.{Rows}
use Rattle.row_table.specs.Callers.{local_with}
use Rattle.row_gather.proofs.Kept.{gathered_by_stays}
use Rattle.drv_wrapper.specs.States.{announced_local}
use Rattle.call_handles.specs.declared.stage.HandleStage.{HandleStage}
use Rattle.announced_calls.specs.Outside.{every_reply}
use Rattle.call_handles.specs.Callers.{rows_of, IsSoundAt}
use Rattle.announced_calls.specs.Ends.{IsPublishedBy}
use Rattle.call_handles.proofs.caller_handle.CallerHandle.publish.Goals as goal

pub returns-in-Announced-clause-sound : goal.returns-in-Announced-clause-sound
returns-in-Announced-clause-sound c =
    let self = c.args.self in
    let call = c.in-Announced.call in
    let caller = c.publish_alone.result in
    let stands =
    subst (λ (s : HandleStage). IsSoundAt (rows_of self) self.kept.kind self.kept.gathered s)
    c.in-Announced.is c.requires.sound.0 in
    let (told, seen, at) = c.publish_alone.ensures.published in
    let published =
    subst (λ (r : Rows _). IsPublishedBy every_reply r call c.args.reply caller told seen)
    c.deref.ensures at in (
      (
        published.still.0,
        c.publish_alone.ensures.free,
        gathered_by_stays (announced_local call)
            (local_with caller) self.kept.gathered published.grows.peeked stands.1,
      ),
      c.requires.sound.1,
    )

pub returns-in-Announced-clause-when : goal.returns-in-Announced-clause-when
returns-in-Announced-clause-when c = (λ _. (c.in-Announced.call, c.in-Announced.is), λ _. refl)

pub returns-in-Announced-clause-published : goal.returns-in-Announced-clause-published
returns-in-Announced-clause-published c = λ _.
    let call = c.in-Announced.call in
    let caller = c.publish_alone.result in
    let (told, seen, at) = c.publish_alone.ensures.published in
    let published =
    subst (λ (r : Rows _). IsPublishedBy every_reply r call c.args.reply caller told seen)
    c.deref.ensures at in
    (call, caller, told, seen, c.in-Announced.is, refl, published)
