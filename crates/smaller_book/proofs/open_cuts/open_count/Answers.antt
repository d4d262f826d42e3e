use Rattle.std.proofs.Common.{◌-◌, arith}
use Rattle.book_base.specs.declared.call.Call.{Call}
use Rattle.smaller_book.proofs.OpenCuts.{open_lacks}
use Rattle.smaller_book.proofs.open_cuts.open_count.Goals as goal

pub loop-count-preserved : goal.loop-count-preserved
loop-count-preserved c =
    let inv = c.loop-count.invariant in
    let call : Call = record { caller = c.args.caller; number = c.loop-count.count - 1 } in
    let more = c.holds_one_open.ensures c.if-not-holds_one_open.true in (
      omega (arith, inv.0),
      λ other within one. open_lacks c.args.book.now c.args.cut.now other call more.0 more.1
          c.callers-callers.ensures.valid more.2 more.3 within one,
    )
