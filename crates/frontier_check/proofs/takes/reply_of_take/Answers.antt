use Rattle.std.proofs.Common.{◌-◌, arith}
use Rattle.book_base.proofs.ReachingLemmas.{suffices-list, suffices-next, suffices-step}
use Rattle.frontier_check.specs.declared.walk.TheConstants.{MOST_CALLS}
use Rattle.frontier_check.proofs.takes.reply_of_take.Goals as goal

pub reset-requires : goal.reset-requires
reset-requires g c =
    let spec = g.S.SeqObject.spec c.args.object.now in
    suffices-list spec.next spec.init MOST_CALLS c.args.spare.now.room c.requires

pub step-put-requires : goal.step-put-requires
step-put-requires g c =
    let spec = g.S.SeqObject.spec c.args.object.now in
    rw (c.reset.ensures)
    (suffices-next spec.next spec.init MOST_CALLS c.args.spare.now.room c.args.put (omega arith)
    c.requires)

pub step-reply-requires : goal.step-reply-requires
step-reply-requires g c =
    let spec = g.S.SeqObject.spec c.args.object.now in
    let room = c.args.spare.now.room in
    rw (c.step-put.ensures.list, c.reset.ensures)
    (suffices-next spec.next (spec.next spec.init c.args.put).0 (MOST_CALLS - 1) room c.args.take
    (omega arith)
    (suffices-step spec.next spec.init MOST_CALLS (MOST_CALLS - 1) room c.args.put (omega arith)
    c.requires))
