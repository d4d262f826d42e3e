use Rattle.std.proofs.Common.{arith}
use Rattle.set_order.proofs.Trying.{lost_dead}
use Rattle.set_order.proofs.search.SetSearch.is_lost.Goals as goal

pub returns-then-not-may_reply : goal.returns-then-not-may_reply
returns-then-not-may_reply g c _ =
    lost_dead (g.O.SetObject.served c.args.self.now.object.now) c.args.self.now.book.now
    (record { caller = c.loop-caller.caller; number = c.from-number.result }) c.op.result
    c.record-reply.result
    c.op.ensures c.record-reply.ensures.«record» c.args.counts.now c.args.here.now.words
    (omega (arith, c.requires)) (omega (arith, c.from-number.ensures))
    (c.may_reply.ensures c.if-not-may_reply.true)
