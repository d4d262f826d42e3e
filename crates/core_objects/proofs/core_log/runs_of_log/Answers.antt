use Rattle.world_objects.proofs.LogEffects.{logs_linearize}
use Rattle.core_objects.proofs.core_log.runs_of_log.Goals as goal

pub returns : goal.returns
returns g c = λ n cap steps run.
    logs_linearize (g.S.SeqObject.spec c.args._program.now.object) n cap steps run
