use Rattle.std.proofs.Common.{not, Some, ap, ◌∙◌}
use Rattle.world_core.specs.declared.region.Region.TheVariants.{N}
use Rattle.world_core.specs.Local.{Local}
use Rattle.world_core.specs.Event as event
use Rattle.row_table.specs.declared.stance.Stance.{Stance}
use Rattle.row_table.specs.Actions.{opening_in}
use Rattle.row_table.specs.Stances.{opening_with}
use Rattle.row_table.specs.Callers.{shape_of, who_of, local_with, stance_of}
use Rattle.collect_scan.specs.Turns.{stance_scanned}
use Rattle.drv_wrapper.proofs.Locals.{announcing_is_free}
use Rattle.drv_wrapper.proofs.Phases.{announces}
use Rattle.drv_wrapper.proofs.announcing.announce.Goals as goal

pub scan-cut-requires-clause-begins : goal.scan-cut-requires-clause-begins
scan-cut-requires-clause-begins g c =
    let s = shape_of g.P.Program.meaning c.args.rows.now in
    let l : Local = local_with c.args.caller in
    let free = announcing_is_free s
    (who_of c.args.caller) l c.requires.rows.seat.local c.requires.idle.announcing in
    record {
      free = free;
      begins =
          ap (λ (stance : Stance). event.may_begin s (who_of c.args.caller) l N 0
          (opening_in (opening_with (Some N) stance.reply))) c.requires.stands
          ∙ ap not free;
    }

pub invariant_of-result : goal.invariant_of-result
invariant_of-result g c =
    record {
      asked =
          (announces (shape_of g.P.Program.meaning c.args.rows.now)
          (who_of c.args.caller) c.args.op c.scan-cut.result (stance_of c.args.caller)
          (local_with c.args.caller) (local_with c.scan-cut.new.caller)
          (local_with c.announce_row.new.caller) c.requires.rows.seat.local c.requires.idle
          c.requires.stands c.scan-cut.ensures.scanned c.scan-cut.ensures.looked
          c.announce_row.ensures.announced).asked;
      stands = c.announce_row.ensures.stance ∙ c.scan-cut.ensures.stance
          ∙ ap (λ (stance : Stance). stance_scanned stance N) c.requires.stands;
    }

pub returns-clause-progress : goal.returns-clause-progress
returns-clause-progress g c =
    (announces (shape_of g.P.Program.meaning c.args.rows.now)
    (who_of c.args.caller) c.args.op c.scan-cut.result (stance_of c.args.caller)
    (local_with c.args.caller) (local_with c.scan-cut.new.caller)
    (local_with c.announce_row.new.caller) c.requires.rows.seat.local c.requires.idle
    c.requires.stands c.scan-cut.ensures.scanned c.scan-cut.ensures.looked
    c.announce_row.ensures.announced).progress

pub returns-clause-grows : goal.returns-clause-grows
returns-clause-grows g c =
    (announces (shape_of g.P.Program.meaning c.args.rows.now)
    (who_of c.args.caller) c.args.op c.scan-cut.result (stance_of c.args.caller)
    (local_with c.args.caller) (local_with c.scan-cut.new.caller)
    (local_with c.announce_row.new.caller) c.requires.rows.seat.local c.requires.idle
    c.requires.stands c.scan-cut.ensures.scanned c.scan-cut.ensures.looked
    c.announce_row.ensures.announced).grows

pub returns-clause-announced : goal.returns-clause-announced
returns-clause-announced g c =
    (announces (shape_of g.P.Program.meaning c.args.rows.now)
    (who_of c.args.caller) c.args.op c.scan-cut.result (stance_of c.args.caller)
    (local_with c.args.caller) (local_with c.scan-cut.new.caller)
    (local_with c.announce_row.new.caller) c.requires.rows.seat.local c.requires.idle
    c.requires.stands c.scan-cut.ensures.scanned c.scan-cut.ensures.looked
    c.announce_row.ensures.announced).events
