use Rattle.world_objects.proofs.TallyAndCell.{cell_serves_register, cells_linearize}
use Rattle.world_objects.proofs.laws.cells_linearize.Goals as goal

pub returns-clause-serves : goal.returns-clause-serves
returns-clause-serves c = cell_serves_register

pub returns-clause-linearizable : goal.returns-clause-linearizable
returns-clause-linearizable c = cells_linearize
