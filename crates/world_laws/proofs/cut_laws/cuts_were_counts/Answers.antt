use Rattle.world_laws.proofs.Instants.{cuts_were_counts, embedded_cuts_were_counts, given_cuts_were_counts, embedded_cuts_were_own_counts}
use Rattle.world_laws.proofs.cut_laws.cuts_were_counts.Goals as goal

pub returns-clause-given : goal.returns-clause-given
returns-clause-given c = cuts_were_counts

pub returns-clause-embedded : goal.returns-clause-embedded
returns-clause-embedded c = embedded_cuts_were_counts

pub returns-clause-given_to_locals : goal.returns-clause-given_to_locals
returns-clause-given_to_locals c = given_cuts_were_counts

pub returns-clause-embedded_in_locals : goal.returns-clause-embedded_in_locals
returns-clause-embedded_in_locals c = embedded_cuts_were_own_counts
