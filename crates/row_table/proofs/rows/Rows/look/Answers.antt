use Rattle.std.proofs.Common.{sym, subst, IsTrue}
use Rattle.world_core.specs.Event as event
use Rattle.row_table.specs.declared.action.Opening.{Opening}
use Rattle.row_table.specs.Actions.{opening_in}
use Rattle.row_table.specs.Callers.{shape_of, local_with}
use Rattle.row_table.proofs.Making.{makes_look}
use Rattle.row_table.proofs.rows.Rows.look.Goals as goal

pub load_as-word-requires-clause-makes : goal.load_as-word-requires-clause-makes
load_as-word-requires-clause-makes g c =
    let a = c.requires in
    makes_look _ _ _ _ c.requires.caller.seat.who c.args.region c.args.j c.opening-opening.result _
    c.requires.counted
    (subst (λ (o : Opening). IsTrue
    (event.may_begin (shape_of g.P.Program.meaning c.args.self.now) c.args.caller.now.seat.who
    (local_with c.args.caller.now) c.args.region c.args.j (opening_in o)))
    (sym c.opening-opening.ensures) c.requires.begins)
    c.count_index-index.ensures
