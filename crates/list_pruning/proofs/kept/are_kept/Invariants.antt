use Rattle.std.proofs.Common.{ℕ, ◌<◌, get_or}
use Rattle.list_pruning.specs.LastFirst.{IsKept}
use Rattle.list_pruning.proofs.kept.are_kept.Given as goal

abbrev pub invariant-loop-k : goal.invariant-loop-k
invariant-loop-k g l = (j : ℕ) → j < l.k
    → IsKept (g.R.Reader.reading l.reader) l.book l.cut (get_or l.words j 0)
