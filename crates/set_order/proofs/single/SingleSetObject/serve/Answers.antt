use Rattle.set_order.proofs.Singles.{alone_room}
use Rattle.set_order.proofs.single.SingleSetObject.serve.Goals as goal

pub step-reply-requires : goal.step-reply-requires
step-reply-requires g c =
    alone_room (g.S.SeqObject.spec c.args.self.now.object).next c.args.state.now.words
    c.args.ops.now c.args.state.now.room c.if-ops-ne1.false c.requires.room
