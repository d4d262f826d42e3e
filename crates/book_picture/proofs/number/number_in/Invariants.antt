use Rattle.std.proofs.Common.{ℕ, ◌<◌}
use Rattle.book_base.specs.Order.{StandsAt}
use Rattle.book_picture.proofs.number.number_in.Given as goal

abbrev pub invariant-loop-k : goal.invariant-loop-k
invariant-loop-k l = (j : ℕ) → j < l.k → StandsAt l.order j l.call → ⊥
