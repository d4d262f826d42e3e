use Rattle.std.proofs.Common.{◌≡◌, ℕ, ◌<◌, length, slice_index}
use Rattle.book_base.specs.Book.{answered}
use Rattle.frontier_check.proofs.prefix.answers_in.Given as goal

abbrev pub invariant-loop-caller : goal.invariant-loop-caller
invariant-loop-caller l = record {
  long : length l.answered ≡ length (answered l.book);
  same : (i : ℕ) → i < l.caller → slice_index l.answered i ≡ slice_index (answered l.book) i;
}
