use Rattle.std.proofs.Common.{arith}
use Rattle.list_pruning.proofs.Listing.{lists_all}
use Rattle.list_pruning.proofs.sight.sight_of_values.Goals as goal

pub returns : goal.returns
returns g c = lists_all (g.R.Reader.reading c.args.reader.now) c.args.book.now c.loop-caller.caller
    c.loop-caller.sight (omega (arith, c.callers-caller-end.ensures.count)) c.loop-caller.invariant
