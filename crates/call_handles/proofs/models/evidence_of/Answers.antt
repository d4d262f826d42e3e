use Rattle.std.proofs.Common.{Some, refl, ap}
use Rattle.call_handles.proofs.models.evidence_of.Goals as goal

pub returns-in_ok-evidence-in-Model-clause-when : goal.returns-in_ok-evidence-in-Model-clause-when
returns-in_ok-evidence-in-Model-clause-when c =
    (λ some. (c.in-Model.check, ap Some c.in-Model.is, tt), λ is. refl)

pub returns-in_ok-evidence-in-Model-clause-evidence : goal.returns-in_ok-evidence-in-Model-clause-evidence
returns-in_ok-evidence-in-Model-clause-evidence c =
    (c.in-Model.check, ap Some c.in-Model.is, c.in_ok-evidence-in-Model.ensures.evidence)
