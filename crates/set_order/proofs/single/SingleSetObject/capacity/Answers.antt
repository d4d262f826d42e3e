use Rattle.set_order.specs.ServingLaws.{served_alone-suffices}
use Rattle.set_order.proofs.single.SingleSetObject.capacity.Goals as goal

pub returns-clause-fits : goal.returns-clause-fits
returns-clause-fits g c =
    let spec = g.S.SeqObject.spec c.args.self.now.object in
    served_alone-suffices spec.next spec.init c.args.operations c.capacity.result
    c.capacity.ensures.fits
