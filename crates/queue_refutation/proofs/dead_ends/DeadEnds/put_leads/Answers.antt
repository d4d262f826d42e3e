use Rattle.std.proofs.Common.{refl, arith, below_more}
use Rattle.queue_refutation.proofs.Entries.{few-callers, takes-read}
use Rattle.queue_refutation.proofs.dead_ends.DeadEnds.put_leads.Goals as goal

pub loop-caller-preserved : goal.loop-caller-preserved
loop-caller-preserved c =
    below_more _ _ c.loop-caller.invariant (c.taker_leads.ensures c.if-not-taker_leads.false)

pub returns : goal.returns
returns c told reading book pair is of may =
    let few = few-callers reading book c.args.self.now.table.now pair.take is
    ((takes-read reading book).call pair.take (may.value, may.takes)) in
    c.loop-caller.invariant pair.take.caller
    (omega (arith, few, c.loop-caller-test.false)) reading book pair is (of, refl) may
