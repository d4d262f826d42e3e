use Rattle.std.proofs.Common.{refl}
use Rattle.selfcheck_c.proofs.models.selfcheck_model_announce.Goals as goal

pub returns-then-announce_modelled-clause-when : goal.returns-then-announce_modelled-clause-when
returns-then-announce_modelled-clause-when c =
    (λ _. c.announce_modelled.ensures.when.0 c.if-announce_modelled.true, λ _. refl)

pub returns-then-announce_modelled-clause-begun : goal.returns-then-announce_modelled-clause-begun
returns-then-announce_modelled-clause-begun c = λ _.
    c.announce_modelled.ensures.begun c.if-announce_modelled.true
