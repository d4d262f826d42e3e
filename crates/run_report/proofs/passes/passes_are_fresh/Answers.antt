use Rattle.run_report.proofs.Workers.{fresh_passes}
use Rattle.run_report.proofs.passes.passes_are_fresh.Goals as goal

pub returns : goal.returns
returns g c = fresh_passes _ _ _ _ _ _ _ _
    (λ pass pairs own told. g.met.B.BlackBox.tells_each c.args._object.now pass pairs own told)
    c.requires
