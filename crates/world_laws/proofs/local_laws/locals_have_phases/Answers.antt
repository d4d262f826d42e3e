use Rattle.world_laws.proofs.Locals.{locals_have_phases}
use Rattle.world_laws.proofs.local_laws.locals_have_phases.Goals as goal

pub returns : goal.returns
returns c = locals_have_phases
