use Rattle.world_laws.proofs.Judging.{delivered_calls_stand_in_one}
use Rattle.world_laws.proofs.verdicts.delivered_calls_stand_in_one.Goals as goal

pub returns : goal.returns
returns c = delivered_calls_stand_in_one
