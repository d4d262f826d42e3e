use Rattle.std.proofs.Common.{refl, arith}
use Rattle.seq_objects.specs.Objects.{kind_next}
use Rattle.judging_examples.proofs.runs.runs_of_a_queue.Goals as goal

pub returns-clause-run : goal.returns-clause-run
unfolding kind_next
returns-clause-run c = (refl, (refl, (refl, (refl, (refl, tt)))))

pub returns-clause-last_first : goal.returns-clause-last_first
unfolding kind_next
returns-clause-last_first c = λ run. omega (arith, run.1.1.0)

pub returns-clause-twice : goal.returns-clause-twice
unfolding kind_next
returns-clause-twice c = λ run. omega (arith, run.1.1.0)

pub returns-clause-never_put : goal.returns-clause-never_put
unfolding kind_next
returns-clause-never_put c = λ run. omega (arith, run.0)
