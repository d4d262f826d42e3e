use Rattle.std.proofs.Common.{refl}
use Rattle.drv_wrapper.proofs.Stepping.{has_stepped}
use Rattle.drv_wrapper.proofs.announced.Announced.object_exchange.Goals as goal

pub returns-clause-stepped : goal.returns-clause-stepped
returns-clause-stepped g c = has_stepped g.P.Program.meaning c.args.rows.now c.args.self.now _ _
    c.requires.rows c.object_exchange.ensures.caller refl c.object_exchange.ensures.event
