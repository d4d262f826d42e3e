use Rattle.std.proofs.Common.{refl, arith}
use Rattle.seq_objects.specs.Objects.{kind_next}
use Rattle.judging_examples.proofs.runs.runs_of_a_pqueue.Goals as goal

pub returns-clause-run : goal.returns-clause-run
unfolding kind_next
returns-clause-run c = (refl, (refl, (refl, (refl, (refl, (refl, (refl, tt)))))))

pub returns-clause-greater_first : goal.returns-clause-greater_first
unfolding kind_next
returns-clause-greater_first c = λ run. omega (arith, run.1.1.0)

pub returns-clause-twice : goal.returns-clause-twice
unfolding kind_next
returns-clause-twice c = λ run. omega (arith, run.1.1.0)

pub returns-clause-left_after : goal.returns-clause-left_after
unfolding kind_next
returns-clause-left_after c = λ run. omega (arith, run.1.1.1.0)
