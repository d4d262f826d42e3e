use Rattle.selfcheck_c.proofs.models.selfcheck_model_table.Goals as goal

pub returns-in-Ok-true-clause-opened : goal.returns-in-Ok-true-clause-opened
returns-in-Ok-true-clause-opened c = λ _. c.in-Ok-true.ensures.opened c.in-Ok-true.field-0-test
