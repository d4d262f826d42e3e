use Rattle.std.proofs.Common.{◌+◌, ap, arith}
use Rattle.world_core.specs.declared.region.Region.TheVariants.{M}
use Rattle.row_table.specs.declared.notes.Notes.{Notes}
use Rattle.row_table.specs.Callers.{shape_of}
use Rattle.row_table.proofs.Making.{makes_publish, few_calls}
use Rattle.row_table.proofs.rows.Rows.publish.Goals as goal

pub overflow_add-count : goal.overflow_add-count
overflow_add-count g c =
    let few =
    few_calls (shape_of g.P.Program.meaning c.args.self.now) _ _ M c.requires.caller.seat.local in
    let cap = c.args.self.now.few.3 in
    let own = ap (λ (k : Notes). k.published) c.args.caller.now.tied in
    omega (arith, few, own)

pub store_as-requires-clause-makes : goal.store_as-requires-clause-makes
store_as-requires-clause-makes g c =
    makes_publish _ _ _ _ c.requires.caller.seat.who _ _ c.requires.staged
    c.count_index-index.ensures (ap (λ (k : Notes). k.published + 1) c.args.caller.now.tied)

pub publish-requires : goal.publish-requires
publish-requires g c =
    let few =
    few_calls (shape_of g.P.Program.meaning c.args.self.now) _ _ M c.requires.caller.seat.local in
    let cap = c.args.self.now.few.3 in
    let own = ap (λ (k : Notes). k.published) c.args.caller.now.tied in
    omega (arith, few, own)
