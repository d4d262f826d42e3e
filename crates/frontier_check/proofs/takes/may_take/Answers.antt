use Rattle.std.proofs.Common.{arith}
use Rattle.book_base.proofs.ReachingLemmas.{suffices-list, suffices-next}
use Rattle.frontier_check.specs.declared.walk.TheConstants.{MOST_CALLS}
use Rattle.frontier_check.proofs.takes.may_take.Goals as goal

pub reset-requires : goal.reset-requires
reset-requires g c =
    let spec = g.S.SeqObject.spec c.args.object.now in
    suffices-list spec.next spec.init MOST_CALLS c.args.spare.now.room c.requires

pub step-reply-requires : goal.step-reply-requires
step-reply-requires g c =
    let spec = g.S.SeqObject.spec c.args.object.now in
    rw (c.reset.ensures)
    (suffices-next spec.next spec.init MOST_CALLS c.args.spare.now.room c.args.op (omega arith)
    c.requires)
