use Rattle.std.proofs.Common.{sym, subst}
use Rattle.seq_objects.specs.Objects.{kind_spec}
use Rattle.smaller_book.specs.Earliest.{IsIllegalCut}
use Rattle.smaller_book.proofs.cuts.least_broken.Goals as goal

pub loop-caller-preserved : goal.loop-caller-preserved
loop-caller-preserved c =
    subst (IsIllegalCut (kind_spec c.args.kind) c.args.book.now)
    (sym c.set.ensures) c.in_ok-count.ensures
