use Rattle.std.proofs.Common.{sym, subst}
use Rattle.seq_objects.specs.Objects.{kind_spec}
use Rattle.smaller_book.specs.Earliest.{IsIllegalCut}
use Rattle.smaller_book.proofs.LeastCuts.{illegal_at_all}
use Rattle.smaller_book.proofs.cuts.first_illegal.Goals as goal

pub loop-low-init : goal.loop-low-init
loop-low-init c =
    subst (IsIllegalCut (kind_spec c.args.kind) c.args.book.now)
    (sym c.all_records-cut.ensures)
    (illegal_at_all (kind_spec c.args.kind) c.args.book.now
    c.callers-callers.ensures.valid c.requires)
