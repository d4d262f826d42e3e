use Rattle.std.proofs.Common.{refl, arith, below_more}
use Rattle.queue_refutation.proofs.Entries.{few-callers, puts-read}
use Rattle.queue_refutation.proofs.dead_ends.DeadEnds.pairs_lead.Goals as goal

pub loop-caller-preserved : goal.loop-caller-preserved
loop-caller-preserved c =
    below_more _ _ c.loop-caller.invariant (c.putter_leads.ensures c.if-not-putter_leads.false)

pub returns : goal.returns
returns c told reading book pair is any may =
    let few = few-callers reading book c.args.self.now.table.now pair.put is
    ((puts-read reading book).call pair.put (may.value, may.puts)) in
    c.loop-caller.invariant pair.put.caller
    (omega (arith, few, c.loop-caller-test.false)) reading book pair is refl may
