use Rattle.residue_laws.proofs.Lateness.{late_residues_suffice, late_residues_step}
use Rattle.residue_laws.proofs.laws.late_residues_suffice.Goals as goal

pub returns-clause-all : goal.returns-clause-all
returns-clause-all c = late_residues_suffice

pub returns-clause-step : goal.returns-clause-step
returns-clause-step c = late_residues_step
