use Rattle.std.proofs.Common.{refl}
use Rattle.history_text.proofs.header.columns_first.Goals as goal

pub returns-in_default-clause-cause : goal.returns-in_default-clause-cause
returns-in_default-clause-cause c = rw c.in_default.ensures.none refl

pub returns-in-None-clause-cause : goal.returns-in-None-clause-cause
returns-in-None-clause-cause c =
    rw c.in-Some.ensures.line (refl, rw c.in-None.is at c.in_ok-names.ensures.none)
