use Rattle.std.proofs.Common.{◌≡◌, ℕ, max, length, take, get_or}
use Rattle.row_gather.specs.Words.{greatest_of}
use Rattle.row_gather.proofs.held.raise_to_all.Given as goal

abbrev pub invariant-loop-answer : goal.invariant-loop-answer
invariant-loop-answer l = record {
  wide : length l.held ≡ length l.fn.held;
  counts : (i : ℕ) → get_or l.held i 0
      ≡ max (get_or l.fn.held i 0) (greatest_of (take l.answer-index l.records) i);
}
