use Rattle.locality.proofs.Merging.{locality}
use Rattle.locality.proofs.laws.locality.Goals as goal

pub returns : goal.returns
returns c = locality
