use Rattle.std.proofs.Common.{inl, inr, arith}
use Rattle.queue_refutation.proofs.Clashing.{takes-refute}
use Rattle.queue_refutation.proofs.clashes.refutes.Goals as goal

pub returns-then-take_moment-put_moment : goal.returns-then-take_moment-put_moment
returns-then-take_moment-put_moment c told =
    takes-refute c.args.table.now c.args.ahead c.args.other c.args.put_moment c.args.take_moment
    (omega arith) (omega arith)
    (c.takes_of_are_ahead.ensures c.if-not-takes_of_are_ahead.false) (inl (omega arith))

pub returns : goal.returns
returns c told =
    takes-refute c.args.table.now c.args.ahead c.args.other c.args.put_moment c.args.take_moment
    (omega arith) (omega arith)
    (c.takes_of_are_ahead.ensures c.if-not-takes_of_are_ahead.false)
    (inr (c.puts_of_are_ahead.ensures told))
