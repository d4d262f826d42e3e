use Rattle.std.proofs.Common.{ℕ, List, ◌<◌}
use Rattle.given_book.specs.Given.{HasEndAt}
use Rattle.given_book.proofs.part.place_of_end.Given as goal

abbrev pub invariant-loop-at : goal.invariant-loop-at
invariant-loop-at l = (i : ℕ) (rest : List ℕ) → i < l.at → ¬ (HasEndAt l.fn.bytes i rest)
