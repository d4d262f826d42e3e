use Rattle.client_scripts.proofs.Clients.{operation_at}
use Rattle.client_scripts.proofs.script.Script.op.Goals as goal

pub returns : goal.returns
returns c = operation_at c.self.inside.kind c.self.inside.clients.items c.self.inside.turns.items
    c.args.self.now c.args.call c.index.result.now c.index-2.result.now c.self.view_is c.requires
    c.index.ensures c.index-2.ensures
