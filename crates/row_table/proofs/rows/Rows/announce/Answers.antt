use Rattle.std.proofs.Common.{◌+◌, ap, arith}
use Rattle.world_core.specs.declared.region.Region.TheVariants.{N}
use Rattle.row_table.specs.declared.notes.Notes.{Notes}
use Rattle.row_table.specs.Callers.{shape_of}
use Rattle.row_table.proofs.Making.{makes_announce, few_calls}
use Rattle.row_table.proofs.rows.Rows.announce.Goals as goal

pub overflow_add-count : goal.overflow_add-count
overflow_add-count g c =
    let few =
    few_calls (shape_of g.P.Program.meaning c.args.self.now) _ _ N c.requires.caller.seat.local in
    let cap = c.args.self.now.few.3 in
    let own = ap (λ (k : Notes). k.announced) c.args.caller.now.tied in
    omega (arith, few, own)

pub store_as-requires-clause-makes : goal.store_as-requires-clause-makes
store_as-requires-clause-makes g c =
    makes_announce _ _ _ _ c.requires.caller.seat.who _ _ c.requires.staged
    c.count_index-index.ensures (ap (λ (k : Notes). k.announced + 1) c.args.caller.now.tied)

pub announce-requires : goal.announce-requires
announce-requires g c =
    let few =
    few_calls (shape_of g.P.Program.meaning c.args.self.now) _ _ N c.requires.caller.seat.local in
    let cap = c.args.self.now.few.3 in
    let own = ap (λ (k : Notes). k.announced) c.args.caller.now.tied in
    omega (arith, few, own)
