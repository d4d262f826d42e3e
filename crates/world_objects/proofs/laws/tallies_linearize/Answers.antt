use Rattle.world_objects.proofs.TallyAndCell.{tally_serves_counter, tallies_linearize}
use Rattle.world_objects.proofs.laws.tallies_linearize.Goals as goal

pub returns-clause-serves : goal.returns-clause-serves
returns-clause-serves c = tally_serves_counter

pub returns-clause-linearizable : goal.returns-clause-linearizable
returns-clause-linearizable c = tallies_linearize
