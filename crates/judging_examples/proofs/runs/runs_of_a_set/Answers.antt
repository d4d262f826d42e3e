use Rattle.std.proofs.Common.{refl, arith}
use Rattle.seq_objects.specs.Objects.{kind_next}
use Rattle.judging_examples.proofs.runs.runs_of_a_set.Goals as goal

pub returns-clause-run : goal.returns-clause-run
unfolding kind_next
returns-clause-run c = (refl, (refl, (refl, (refl, (refl, (refl, tt))))))

pub returns-clause-other : goal.returns-clause-other
unfolding kind_next
returns-clause-other c = λ run. omega (arith, run.1.0)

pub returns-clause-added_twice : goal.returns-clause-added_twice
unfolding kind_next
returns-clause-added_twice c = λ run. omega (arith, run.1.0)

pub returns-clause-stays_once : goal.returns-clause-stays_once
unfolding kind_next
returns-clause-stays_once c = λ run. omega (arith, run.1.1.1.0)

pub returns-clause-never_added : goal.returns-clause-never_added
unfolding kind_next
returns-clause-never_added c = λ run. omega (arith, run.0)
