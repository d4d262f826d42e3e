use Rattle.std.proofs.Common.{◌≡◌, length}
use Rattle.frontier_check.proofs.guess.Guess.new.Given as goal

abbrev pub invariant-loop-caller : goal.invariant-loop-caller
invariant-loop-caller g l = record {
  room : l.spare.room ≡ l.fn.spare.room;
  counts : length l.guess.counts ≡ length l.book;
  taken : length l.guess.taken ≡ length l.book;
}
