use Rattle.world_laws.proofs.Judging.{seen_cuts_fit}
use Rattle.world_laws.proofs.verdicts.seen_cuts_fit.Goals as goal

pub returns : goal.returns
returns c = seen_cuts_fit
