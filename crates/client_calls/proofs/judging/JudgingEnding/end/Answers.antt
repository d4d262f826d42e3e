use Rattle.enforcer.proofs.WholeCalls.{peeks_grow}
use Rattle.client_calls.proofs.judging.JudgingEnding.end.Goals as goal

pub returns-in-Ok-default-Delivered-clause-grows :
    goal.returns-in-Ok-default-Delivered-clause-grows
returns-in-Ok-default-Delivered-clause-grows g c =
    peeks_grow _ _ _ _ c.in-Ok-default-Delivered.ensures.peeks

pub returns-in-Ok-default-Illegal-clause-grows : goal.returns-in-Ok-default-Illegal-clause-grows
returns-in-Ok-default-Illegal-clause-grows g c =
    peeks_grow _ _ _ _ c.in-Ok-default-Illegal.ensures.peeks

pub returns-clause-grows : goal.returns-clause-grows
returns-clause-grows g c = peeks_grow _ _ _ _ c.in-Err.ensures.unjudged_peeks
