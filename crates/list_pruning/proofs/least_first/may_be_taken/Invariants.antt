use Rattle.std.proofs.Common.{ℕ, ◌<◌}
use Rattle.book_base.specs.Next.{next_call, MayComeNext}
use Rattle.list_pruning.specs.LeastFirst.{CouldTake}
use Rattle.list_pruning.proofs.least_first.may_be_taken.Given as goal

abbrev pub invariant-loop-caller : goal.invariant-loop-caller
invariant-loop-caller g l = (i : ℕ) → i < l.caller → MayComeNext l.book l.cut (next_call l.cut i)
    → CouldTake (g.R.Reader.reading l.reader) l.book (next_call l.cut i) l.value → ⊥
