use Rattle.std.proofs.Common.{refl}
use Rattle.drv_wrapper.proofs.Stepping.{has_stepped}
use Rattle.drv_wrapper.proofs.announced.Announced.object_add.Goals as goal

pub returns : goal.returns
returns g c = has_stepped g.P.Program.meaning c.args.rows.now c.args.self.now _ _ c.requires.rows
    c.object_add.ensures.caller refl c.object_add.ensures.event
