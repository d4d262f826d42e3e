use Rattle.std.proofs.Common.{◌-◌}
use Rattle.seq_objects.specs.Objects.{kind_spec}
use Rattle.smaller_book.proofs.LeastCuts.{legal_below_from_greatest}
use Rattle.smaller_book.proofs.open_cuts.least_open_of.Goals as goal

pub loop-low-preserved : goal.loop-low-preserved
loop-low-preserved c =
    let inv = c.loop-low.invariant in (
      inv.0,
      inv.1,
      legal_below_from_greatest (kind_spec c.args.kind) c.args.book.now
          c.loop-low.least c.open_below-tried.result c.args.caller
          (c.get-high.result - c.clamp.result) c.callers-callers.ensures.valid
          (c.in_ok-is_illegal_at.ensures.legal c.if-branch.false)
          c.open_below-tried.ensures.greatest,
    )
