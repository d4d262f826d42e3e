use Rattle.std.proofs.Common.{arith}
use Rattle.list_pruning.proofs.Listing.{lists_caller}
use Rattle.list_pruning.proofs.sight.list_caller.Goals as goal

pub returns : goal.returns
returns g c =
    record {
      read = lists_caller (g.R.Reader.reading c.args.reader.now) c.args.book.now c.args.caller
          c.loop-number.number c.loop-number.sight
          (omega (arith, c.calls-number-end.ensures)) c.loop-number.invariant;
    }
