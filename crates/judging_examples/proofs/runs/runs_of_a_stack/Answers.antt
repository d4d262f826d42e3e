use Rattle.std.proofs.Common.{refl, arith}
use Rattle.seq_objects.specs.Objects.{kind_next}
use Rattle.judging_examples.proofs.runs.runs_of_a_stack.Goals as goal

pub returns-clause-run : goal.returns-clause-run
unfolding kind_next
returns-clause-run c = (refl, (refl, (refl, (refl, (refl, tt)))))

pub returns-clause-first_first : goal.returns-clause-first_first
unfolding kind_next
returns-clause-first_first c = λ run. omega (arith, run.1.1.0)

pub returns-clause-twice : goal.returns-clause-twice
unfolding kind_next
returns-clause-twice c = λ run. omega (arith, run.1.1.0)
