use Rattle.std.proofs.Common.{refl}
use Rattle.drv_wrapper.proofs.Stepping.{has_stepped}
use Rattle.drv_wrapper.proofs.announced.Announced.object_store.Goals as goal

pub returns : goal.returns
returns g c =
    let (x, low, event) = c.object_store.ensures.event in (
      x,
      low,
      has_stepped g.P.Program.meaning c.args.rows.now c.args.self.now _ _ c.requires.rows
          c.object_store.ensures.caller refl event,
    )
