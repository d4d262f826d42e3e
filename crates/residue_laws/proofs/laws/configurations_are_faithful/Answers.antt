use Rattle.residue_laws.proofs.Plain.{configurations_are_faithful}
use Rattle.residue_laws.proofs.laws.configurations_are_faithful.Goals as goal

pub returns : goal.returns
returns c = configurations_are_faithful
