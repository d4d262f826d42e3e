use Rattle.residue_laws.proofs.Settling.{residues_decide}
use Rattle.residue_laws.proofs.laws.residues_decide.Goals as goal

pub returns : goal.returns
returns c = residues_decide
