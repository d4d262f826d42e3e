use Rattle.std.proofs.Common.{refl}
use Rattle.selfcheck_c.proofs.handles.selfcheck_publish.Goals as goal

pub returns-then-publish-clause-when : goal.returns-then-publish-clause-when
returns-then-publish-clause-when c = (λ _. c.publish.ensures.when.0 c.if-publish.true, λ _. refl)

pub returns-then-publish-clause-published : goal.returns-then-publish-clause-published
returns-then-publish-clause-published c = λ _. c.publish.ensures.published c.if-publish.true
