use Rattle.std.proofs.Common.{refl, arith}
use Rattle.seq_objects.specs.Objects.{kind_next}
use Rattle.judging_examples.proofs.runs.runs_of_a_register.Goals as goal

pub returns-clause-run : goal.returns-clause-run
unfolding kind_next
returns-clause-run c = (refl, (refl, (refl, tt)))

pub returns-clause-overwritten : goal.returns-clause-overwritten
unfolding kind_next
returns-clause-overwritten c = λ run. omega (arith, run.1.1.0)

pub returns-clause-not_yet : goal.returns-clause-not_yet
unfolding kind_next
returns-clause-not_yet c = λ run. omega (arith, run.0)

pub returns-clause-not_kept : goal.returns-clause-not_kept
unfolding kind_next
returns-clause-not_kept c = λ run. omega (arith, run.1.1.0)
