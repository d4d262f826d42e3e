use Rattle.std.proofs.lemmas.Bool.{false≢true}
use Rattle.book_base.specs.Reaching.{MayReply}
use Rattle.legal_orders.proofs.Replied.{MayReply-from_legal}
use Rattle.frontier_check.proofs.impossible.has_impossible_reply.Goals as goal

pub returns : goal.returns
returns g c denied legal =
    let spec = g.S.SeqObject.spec c.args.object.now in
    let found = c.has_denied_reply.ensures.denied denied in
    let it = found.2 in
    let may : MayReply spec.next it.op it.r.reply =
    MayReply-from_legal spec c.args.book.now found.0 it.op it.r it.asked it.answered legal in
    false≢true (it.tested may)
