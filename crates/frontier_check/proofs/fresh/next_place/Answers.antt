use Rattle.std.proofs.Common.{arith}
use Rattle.book_base.specs.declared.call.Call.{Call}
use Rattle.book_base.proofs.ReachingLemmas.{suffices-next}
use Rattle.frontier_check.proofs.Following.{calls_left, stands-fit, suffices-prefix}
use Rattle.frontier_check.proofs.fresh.next_place.Goals as goal

pub copy_from-requires : goal.copy_from-requires
copy_from-requires g c =
    stands-fit (g.S.SeqObject.spec c.args.object.now) c.args.book.now c.args.prefix.now
    c.requires.put.stands c.args.spare.now.room c.requires.room

pub step-reply-requires : goal.step-reply-requires
step-reply-requires g c =
    let spec = g.S.SeqObject.spec c.args.object.now in
    let book = c.args.book.now in
    let prefix = c.args.prefix.now in
    let call : Call = record { caller = c.args.caller; number = c.get-number.result } in
    let left = calls_left spec book prefix call c.requires.put.stands
    (omega (arith, c.if-number-calls.false, c.calls.ensures)) c.get-number.ensures in
    rw (c.copy_from.ensures)
    (suffices-next spec.next prefix.here.words 1 c.args.spare.now.room c.op.result (omega arith)
    (suffices-prefix spec book prefix 1 c.args.spare.now.room c.requires.put.stands
    (omega (arith, left)) c.requires.room))
