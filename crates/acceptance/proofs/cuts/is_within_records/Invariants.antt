use Rattle.std.proofs.Common.{ℕ, ◌<◌, ◌≤◌, get_or}
use Rattle.book_base.specs.Book.{answers_of}
use Rattle.acceptance.proofs.cuts.is_within_records.Given as goal

abbrev pub invariant-loop-i : goal.invariant-loop-i
invariant-loop-i l = (k : ℕ) → k < l.i → get_or l.cut k 0 ≤ answers_of l.book k
