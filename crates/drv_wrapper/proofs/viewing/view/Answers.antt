use Rattle.std.proofs.Common.{ap, ◌∙◌}
use Rattle.world_core.specs.declared.region.Region.TheVariants.{N}
use Rattle.row_table.specs.declared.stance.Stance.{Stance}
use Rattle.row_table.specs.Callers.{shape_of, who_of, local_with, stance_of}
use Rattle.collect_scan.specs.Turns.{stance_scanned}
use Rattle.drv_wrapper.proofs.Phases.{views}
use Rattle.drv_wrapper.proofs.viewing.view.Goals as goal

pub invariant_of-result : goal.invariant_of-result
invariant_of-result g c =
    record {
      recorded =
          (views (shape_of g.P.Program.meaning c.args.rows.now) (who_of c.args.answered.caller)
          c.args.answered.op c.args.answered.reply c.scan-view.result
          (stance_of c.args.answered.caller)
          (local_with c.args.answered.caller)
          (local_with c.scan-view.new.caller) c.requires.rows.seat.local c.args.answered.asked
          c.args.answered.stands c.scan-view.ensures.scanned c.scan-view.ensures.looked).recorded;
      stands = c.scan-view.ensures.stance
          ∙ ap (λ (stance : Stance). stance_scanned stance N) c.args.answered.stands;
    }

pub returns-clause-progress : goal.returns-clause-progress
returns-clause-progress g c =
    (views (shape_of g.P.Program.meaning c.args.rows.now) (who_of c.args.answered.caller)
    c.args.answered.op c.args.answered.reply c.scan-view.result (stance_of c.args.answered.caller)
    (local_with c.args.answered.caller)
    (local_with c.scan-view.new.caller) c.requires.rows.seat.local c.args.answered.asked
    c.args.answered.stands c.scan-view.ensures.scanned c.scan-view.ensures.looked).progress

pub returns-clause-grows : goal.returns-clause-grows
returns-clause-grows g c =
    (views (shape_of g.P.Program.meaning c.args.rows.now) (who_of c.args.answered.caller)
    c.args.answered.op c.args.answered.reply c.scan-view.result (stance_of c.args.answered.caller)
    (local_with c.args.answered.caller)
    (local_with c.scan-view.new.caller) c.requires.rows.seat.local c.args.answered.asked
    c.args.answered.stands c.scan-view.ensures.scanned c.scan-view.ensures.looked).grows

pub returns-clause-viewed : goal.returns-clause-viewed
returns-clause-viewed g c =
    (views (shape_of g.P.Program.meaning c.args.rows.now) (who_of c.args.answered.caller)
    c.args.answered.op c.args.answered.reply c.scan-view.result (stance_of c.args.answered.caller)
    (local_with c.args.answered.caller)
    (local_with c.scan-view.new.caller) c.requires.rows.seat.local c.args.answered.asked
    c.args.answered.stands c.scan-view.ensures.scanned c.scan-view.ensures.looked).events
