use Rattle.std.proofs.Common.{◌-◌, ◌+◌, sym, subst, arith}
use Rattle.book_base.proofs.ReachingLemmas.{suffices-list, suffices-next, suffices-step}
use Rattle.frontier_check.specs.declared.walk.TheConstants.{MOST_CALLS}
use Rattle.book_base.specs.State.{Contents}
use Rattle.book_base.specs.Reaching.{SufficesAfter}
use Rattle.frontier_check.proofs.remaining.add_puts.Goals as goal

pub reset-requires : goal.reset-requires
reset-requires g c =
    let spec = g.S.SeqObject.spec c.args.object.now in
    suffices-list spec.next spec.init MOST_CALLS c.in_ok-here.here.room c.in_ok-here.ensures

pub loop-back-init : goal.loop-back-init
loop-back-init g c =
    let spec = g.S.SeqObject.spec c.args.object.now in
    subst (λ (s : Contents). SufficesAfter spec.next s.words MOST_CALLS s.room)
    (sym c.reset.ensures) c.in_ok-here.ensures

pub step-reply-requires : goal.step-reply-requires
step-reply-requires g c =
    let spec = g.S.SeqObject.spec c.args.object.now in
    suffices-next spec.next c.loop-back.here.words (MOST_CALLS - c.loop-back.back)
    c.loop-back.here.room _ (omega (arith, c.loop-back-test.true)) c.loop-back.invariant

pub loop-back-preserved : goal.loop-back-preserved
loop-back-preserved g c =
    let spec = g.S.SeqObject.spec c.args.object.now in
    let back = c.loop-back.back in
    subst (λ (s : Contents). SufficesAfter spec.next s.words (MOST_CALLS - (back + 1)) s.room)
    (sym c.step-reply.ensures.list)
    (suffices-step spec.next c.loop-back.here.words (MOST_CALLS - back) (MOST_CALLS - (back + 1))
    c.loop-back.here.room _ (omega (arith, c.loop-back-test.true)) c.loop-back.invariant)
