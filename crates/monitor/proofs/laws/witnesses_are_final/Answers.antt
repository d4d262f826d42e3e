use Rattle.monitor.proofs.Judged.{witnesses_are_final as final}
use Rattle.monitor.proofs.laws.witnesses_are_final.Goals as goal

pub returns : goal.returns
returns c = final
