use Rattle.std.proofs.Common.{◌≤◌}
use Rattle.book_picture.proofs.sheet.width_of.Given as goal

abbrev pub invariant-loop-row : goal.invariant-loop-row
invariant-loop-row l = 712 ≤ l.width
