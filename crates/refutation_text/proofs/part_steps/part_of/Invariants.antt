use Rattle.smaller_book.specs.Numbers.{numbers_in}
use Rattle.refutation_text.specs.Said.{steps_said}
use Rattle.refutation_text.specs.Steps.{LeaveAfter}
use Rattle.refutation_text.proofs.part_steps.part_of.Given as goal

abbrev pub invariant-loop-s : goal.invariant-loop-s
invariant-loop-s l = LeaveAfter l.kind l.fn.book (steps_said l.steps) l.s
    (numbers_in l.left.numbers.items) l.left.book
