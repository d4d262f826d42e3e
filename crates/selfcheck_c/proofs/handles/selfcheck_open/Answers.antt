use Rattle.selfcheck_c.proofs.handles.selfcheck_open.Goals as goal

pub returns-in-Ok-true-clause-opened : goal.returns-in-Ok-true-clause-opened
returns-in-Ok-true-clause-opened c = λ _. c.in-Ok-true.ensures.opened c.in-Ok-true.field-0-test
