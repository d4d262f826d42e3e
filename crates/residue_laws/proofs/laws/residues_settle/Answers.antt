use Rattle.residue_laws.proofs.Settling.{residues_settle}
use Rattle.residue_laws.proofs.laws.residues_settle.Goals as goal

pub returns : goal.returns
returns c = residues_settle
