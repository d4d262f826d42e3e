use Rattle.std.proofs.Common.{map, take}
use Rattle.row_gather.specs.Filling.{IsFilled}
use Rattle.row_gather.proofs.answers.add_answers.Given as goal

abbrev pub invariant-loop-j : goal.invariant-loop-j
invariant-loop-j l = IsFilled l.fn.book (take l.j (map (λ records. records.items) l.lists)) l.book
