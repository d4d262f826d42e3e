use Rattle.residue_laws.proofs.Stepping.{empty_residue, residues_are_closed, residues_step}
use Rattle.residue_laws.proofs.laws.residues_step.Goals as goal

pub returns-clause-empty : goal.returns-clause-empty
returns-clause-empty c = empty_residue

pub returns-clause-closed : goal.returns-clause-closed
returns-clause-closed c = residues_are_closed

pub returns-clause-step : goal.returns-clause-step
returns-clause-step c = residues_step
