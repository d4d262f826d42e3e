use Rattle.std.proofs.Common.{◌<◌, ℕ, ◌∙◌, ap, arith, refl}
use Rattle.world_core.specs.Layout.{place_index}
use Rattle.world_core.proofs.Indices.{row_within}
use Rattle.row_table.specs.Callers.{shape_of, local_with}
use Rattle.row_table.proofs.Making.{makes_stage, staged_row}
use Rattle.row_table.proofs.Moving.{left_notes}
use Rattle.row_table.proofs.rows.Rows.stage.Goals as goal

pub place_index-index-requires-clause-row : goal.place_index-index-requires-clause-row
place_index-index-requires-clause-row g c =
    let row = c.count-row.ensures c.args.caller.now.callers c.args.caller.now.seat.who
    (local_with c.args.caller.now) c.args.caller.now.tied in
    let fits = staged_row (shape_of g.P.Program.meaning c.args.self.now) c.args.caller.now.seat.who
    (local_with c.args.caller.now) c.args.region c.args.place c.args.word c.requires.due in
    omega (arith, row, fits.0)

pub place_index-index-requires-clause-place : goal.place_index-index-requires-clause-place
place_index-index-requires-clause-place g c =
    (staged_row (shape_of g.P.Program.meaning c.args.self.now) c.args.caller.now.seat.who
    (local_with c.args.caller.now) c.args.region c.args.place c.args.word c.requires.due).1

pub store_as-requires-clause-word : goal.store_as-requires-clause-word
store_as-requires-clause-word g c =
    let row = c.count-row.ensures c.args.caller.now.callers c.args.caller.now.seat.who
    (local_with c.args.caller.now) c.args.caller.now.tied in
    let fits = staged_row (shape_of g.P.Program.meaning c.args.self.now) c.args.caller.now.seat.who
    (local_with c.args.caller.now) c.args.region c.args.place c.args.word c.requires.due in
    let low : c.count-row.result < c.args.self.now.cap = omega (arith, row, fits.0) in
    let within =
    row_within c.args.self.now.callers c.args.self.now.cap c.args.region c.args.caller.now.seat.who
    c.count-row.result c.args.place c.requires.caller.seat.who low fits.1 in
    omega (arith, within)

pub store_as-requires-clause-makes : goal.store_as-requires-clause-makes
store_as-requires-clause-makes g c =
    let row = c.count-row.ensures c.args.caller.now.callers c.args.caller.now.seat.who
    (local_with c.args.caller.now) c.args.caller.now.tied in
    makes_stage (shape_of g.P.Program.meaning c.args.self.now) _ _ (local_with c.args.caller.now)
    c.requires.caller.seat.who c.args.region c.args.place c.args.word _ c.requires.due
    (c.place_index-index.ensures ∙ ap (λ (k : ℕ). place_index c.args.self.now.callers
    c.args.self.now.cap c.args.region c.args.caller.now.seat.who k c.args.place) row)

pub invariant_of-caller : goal.invariant_of-caller
invariant_of-caller g c =
    record {
      tied =
          left_notes _ _ _ _ _ _ _ (c.stage.ensures c.args.caller.now.callers
          c.args.caller.now.seat.who (local_with c.args.caller.now) c.args.region c.args.place
          c.args.word c.args.caller.now.tied)
          refl (c.store_as.ensures.seat.1) (c.store_as.ensures.event.2);
    }
