use Rattle.world_laws.proofs.Spanning.{cuts_are_instantaneous}
use Rattle.world_laws.proofs.cut_laws.cuts_are_instantaneous.Goals as goal

pub returns : goal.returns
returns c = cuts_are_instantaneous
