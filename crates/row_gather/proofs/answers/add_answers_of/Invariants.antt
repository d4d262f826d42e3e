use Rattle.std.proofs.Common.{◌≡◌, take}
use Rattle.row_gather.specs.Filling.{with_records}
use Rattle.row_gather.proofs.answers.add_answers_of.Given as goal

abbrev pub invariant-loop-answer : goal.invariant-loop-answer
invariant-loop-answer l = l.book ≡ with_records l.fn.book l.j (take l.answer-index l.records)
