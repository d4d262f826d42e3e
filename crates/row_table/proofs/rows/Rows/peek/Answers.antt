use Rattle.std.proofs.Common.{arith}
use Rattle.world_core.proofs.Indices.{row_within}
use Rattle.row_table.specs.Callers.{shape_of}
use Rattle.row_table.proofs.Making.{makes_peek, known_low}
use Rattle.row_table.proofs.rows.Rows.peek.Goals as goal

pub place_index-index-requires-clause-row : goal.place_index-index-requires-clause-row
place_index-index-requires-clause-row g c = known_low (shape_of g.P.Program.meaning c.args.self.now)
    _ _ _ _ _ c.requires.caller.seat.local c.requires.known

pub load_as-word-requires-clause-word : goal.load_as-word-requires-clause-word
load_as-word-requires-clause-word g c =
    let low = known_low (shape_of g.P.Program.meaning c.args.self.now) _ _ _ _ _
    c.requires.caller.seat.local c.requires.known in
    let within = row_within c.args.self.now.callers c.args.self.now.cap c.args.region c.args.j
    c.args.row c.args.place c.requires.caller_fits low c.requires.place_fits in
    omega arith

pub load_as-word-requires-clause-makes : goal.load_as-word-requires-clause-makes
load_as-word-requires-clause-makes g c =
    makes_peek (shape_of g.P.Program.meaning c.args.self.now) _ _ _ c.requires.caller.seat.who
    c.args.region c.args.j c.args.row c.args.place _ c.requires.caller_fits c.requires.place_fits
    c.requires.known c.place_index-index.ensures
