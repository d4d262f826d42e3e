use Rattle.selfcheck_c.proofs.models.selfcheck_model_caller.Goals as goal

pub returns-in-Ok-true-clause-fit : goal.returns-in-Ok-true-clause-fit
returns-in-Ok-true-clause-fit c = λ _. c.in-Ok-true.ensures.when.0 c.in-Ok-true.field-0-test

pub returns-in-Ok-true-clause-given : goal.returns-in-Ok-true-clause-given
returns-in-Ok-true-clause-given c = λ _. c.in-Ok-true.ensures.given c.in-Ok-true.field-0-test
