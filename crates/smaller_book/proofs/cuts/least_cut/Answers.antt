use Rattle.seq_objects.specs.Objects.{kind_spec}
use Rattle.smaller_book.proofs.LeastCuts.{least_from_open}
use Rattle.smaller_book.proofs.cuts.least_cut.Goals as goal

pub returns-then-branch : goal.returns-then-branch
returns-then-branch c =
    least_from_open (kind_spec c.args.kind) c.args.book.now
    c.in_ok-least.least c.callers-callers.ensures.valid
    (c.in_ok-is_large_and_open_at-2.ensures.large c.if-branch.true)
    (c.in_ok-is_large_and_open_at-2.ensures.open c.if-branch.true) c.in_ok-least.ensures

pub returns-else-branch : goal.returns-else-branch
returns-else-branch c = c.least_of_all-else-branch.ensures
