use Rattle.row_table.specs.Callers.{shape_of, who_of, local_with}
use Rattle.enforcer.proofs.Gathering.{none_is, seen_is_given}
use Rattle.enforcer.proofs.judging.gather.Goals as goal

pub grow_at-requires-clause-given : goal.grow_at-requires-clause-given
grow_at-requires-clause-given g c =
    let seen = c.args.seen.now in
    seen_is_given (shape_of g.P.Program.meaning c.args.rows.now) (who_of seen.caller) seen.record
    seen.cut (local_with seen.caller) c.requires.rows.seat.local seen.saw

pub grow_at-requires-clause-unscanned : goal.grow_at-requires-clause-unscanned
grow_at-requires-clause-unscanned g c =
    none_is (local_with c.args.seen.now.caller).scan c.args.seen.now.saw.free
