use Rattle.std.proofs.Common.{refl, arith}
use Rattle.seq_objects.specs.Objects.{kind_next}
use Rattle.judging_examples.proofs.runs.runs_of_a_counter.Goals as goal

pub returns-clause-run : goal.returns-clause-run
unfolding kind_next
returns-clause-run c = (refl, (refl, (refl, tt)))

pub returns-clause-unknown : goal.returns-clause-unknown
unfolding kind_next
returns-clause-unknown c = (refl, (refl, tt))

pub returns-clause-same_twice : goal.returns-clause-same_twice
unfolding kind_next
returns-clause-same_twice c = λ run. omega (arith, run.1.0)

pub returns-clause-one_left_out : goal.returns-clause-one_left_out
unfolding kind_next
returns-clause-one_left_out c = λ run. omega (arith, run.1.0)

pub returns-clause-from_one : goal.returns-clause-from_one
unfolding kind_next
returns-clause-from_one c = λ run. omega (arith, run.0)
