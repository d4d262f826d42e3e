use Rattle.std.proofs.Common.{ℕ, refl, subst, arith}
use Rattle.row_table.specs.declared.rows.Rows.{Rows}
use Rattle.row_table.specs.Callers.{local_with}
use Rattle.row_gather.proofs.Kept.{gathered_by_stays}
use Rattle.drv_wrapper.specs.States.{announced_local}
use Rattle.announced_calls.specs.Outside.{every_reply}
use Rattle.announced_calls.specs.Ends.{IsAnnouncedBy}
use Rattle.model_callers.specs.declared.stage.ModelStage.{ModelStage}
use Rattle.model_callers.specs.Callers.{rows_of, table_of, IsSoundAt}
use Rattle.model_callers.proofs.model_caller.ModelCaller.announce.Goals as goal

pub returns-else-left-eq0-clause-sound : goal.returns-else-left-eq0-clause-sound
returns-else-left-eq0-clause-sound c =
    let self = c.args.self in
    let stands =
    subst (λ (s : ModelStage). IsSoundAt (rows_of self) (table_of self) self.kept.gathered s)
    c.in-Idle.is c.requires.sound.0 in
    let begun = subst (λ (r : Rows _). IsAnnouncedBy every_reply r c.in-Idle.caller
    c.operation_word.result c.announce_alone-call.result) c.deref.ensures
    c.announce_alone-call.ensures in (
      (
        begun.still.0,
        gathered_by_stays (local_with c.in-Idle.caller)
            (announced_local c.announce_alone-call.result) self.kept.gathered
            begun.grows.peeked stands.2,
      ),
      c.requires.sound.1,
    )

pub returns-else-left-eq0-clause-when : goal.returns-else-left-eq0-clause-when
returns-else-left-eq0-clause-when c =
    let self = c.args.self in
    let stands =
    subst (λ (s : ModelStage). IsSoundAt (rows_of self) (table_of self) self.kept.gathered s)
    c.in-Idle.is c.requires.sound.0 in (
      λ _. (
        c.in-Idle.caller,
        c.in-Idle.is,
        omega (arith, c.left.ensures, c.if-left-eq0.false, stands.0.cap),
      ),
      λ _. refl,
    )

pub returns-else-left-eq0-clause-begun : goal.returns-else-left-eq0-clause-begun
returns-else-left-eq0-clause-begun c = λ _.
    let rows = rows_of c.args.self in
    let call = c.announce_alone-call.result in
    let begun = subst (λ (r : Rows _). IsAnnouncedBy every_reply r c.in-Idle.caller
    c.operation_word.result call) c.deref.ensures c.announce_alone-call.ensures in (
      c.in-Idle.caller,
      call,
      c.in-Idle.is,
      refl,
      subst (λ (op : ℕ). IsAnnouncedBy every_reply rows c.in-Idle.caller op call)
          c.operation_word.ensures begun,
    )
