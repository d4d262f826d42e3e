use Rattle.std.proofs.Common.{◌+◌, ◌-◌, length, sym, ap, subst, arith}
use Rattle.book_base.specs.State.{Contents}
use Rattle.book_base.specs.Reaching.{SufficesAfter}
use Rattle.book_base.proofs.ReachingLemmas.{suffices-list, suffices-next, suffices-step}
use Rattle.queue_pairs.proofs.order.places_of.Goals as goal

pub reset-requires : goal.reset-requires
reset-requires g c =
    let spec = g.S.SeqObject.spec c.args.object.now in
    let fits = suffices-list spec.next spec.init (length c.args.calls.now) c.capacity.result
    c.capacity.ensures.fits in
    omega (arith, fits, ap (λ (s : Contents). s.room) c.in_ok-state.ensures)

pub step-reply-requires : goal.step-reply-requires
step-reply-requires g c =
    suffices-next (g.S.SeqObject.spec c.args.object.now).next c.loop-call.state.words
    (length c.args.calls.now - c.loop-call.call-index) c.loop-call.state.room _
    (omega (arith, c.loop-call-test.true)) c.loop-call.invariant

pub loop-call-preserved : goal.loop-call-preserved
loop-call-preserved g c =
    let next = (g.S.SeqObject.spec c.args.object.now).next in
    let left = length c.args.calls.now - c.loop-call.call-index in
    subst (λ (s : Contents). SufficesAfter next s.words
    (length c.args.calls.now - (c.loop-call.call-index + 1)) s.room)
    (sym c.step-reply.ensures.list)
    (suffices-step next c.loop-call.state.words left
    (length c.args.calls.now - (c.loop-call.call-index + 1)) c.loop-call.state.room _
    (omega (arith, c.loop-call-test.true)) c.loop-call.invariant)
