use Rattle.std.proofs.Common.{ℕ, ◌<◌, ◌≤◌, slice_index}
use Rattle.book_base.specs.Book.{answers_of}
use Rattle.row_gather.proofs.gather.holds_all.Given as goal

abbrev pub invariant-loop-j : goal.invariant-loop-j
invariant-loop-j l = (k : ℕ) → k < l.j → answers_of l.book k ≤ slice_index l.cut k
