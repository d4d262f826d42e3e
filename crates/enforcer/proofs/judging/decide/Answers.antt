use Rattle.std.proofs.Common.{List, subst}
use Rattle.world_core.specs.Calls.{IsGathered}
use Rattle.row_table.specs.Callers.{shape_of, who_of, local_with}
use Rattle.row_gather.specs.Gathered.{IsGatheredBy}
use Rattle.row_gather.proofs.Kept.{gathered_by_stays}
use Rattle.enforcer.proofs.Grown.{stands_on}
use Rattle.enforcer.proofs.WholeCalls.{peeks_grow}
use Rattle.enforcer.proofs.judging.decide.Goals as goal

pub check_after-requires : goal.check_after-requires
check_after-requires g c =
    let object = c.args.object.now in
    let n = c.args.rows.now.callers in
    let d = c.gather.new.seen.caller in
    let l = local_with c.args.seen.now.caller in
    let m = local_with d in
    let by : IsGatheredBy m c.args.gathered = gathered_by_stays l m c.args.gathered
    (peeks_grow l m _ _ c.gather.ensures.peeks).peeked c.requires.gathered in
    let now : IsGathered n m c.args.seen.now.cut c.in_ok-found.found.book =
    subst (λ (cut : List _). IsGathered n m cut c.in_ok-found.found.book) c.gather.ensures.cut
    c.in_ok-found.ensures.gathered in
    record {
      standing =
          stands_on (g.S.SeqObject.spec object)
          (shape_of g.P.Program.meaning c.args.rows.now)
          (who_of d) c.callers.result m c.args.gathered c.args.standing c.standing_in-before.result
          c.args.seen.now.cut c.in_ok-found.found.book c.callers.ensures
          c.gather.ensures.caller.0.seat.local by now c.requires.stands
          c.standing_in-before.ensures.same c.standing_in-before.ensures.held;
    }
