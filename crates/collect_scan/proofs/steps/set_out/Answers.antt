use Rattle.std.proofs.Common.{◌∙◌, ap}
use Rattle.world_core.specs.Event.{Look, local_after}
use Rattle.row_table.specs.declared.stance.Stance.{Stance}
use Rattle.row_table.specs.Actions.{opening_in}
use Rattle.row_table.specs.Stances.{opening_by}
use Rattle.row_table.specs.Callers.{local_with, stance_of}
use Rattle.collect_scan.specs.Turns.{opening_at}
use Rattle.collect_scan.proofs.Going.{first_goes}
use Rattle.collect_scan.proofs.Turning.{begins_with}
use Rattle.collect_scan.proofs.steps.set_out.Goals as goal

pub returns-clause-taken : goal.returns-clause-taken
returns-clause-taken g c =
    let n = c.args.rows.now.callers in
    let x = c.look.result in
    let op = ap (λ (s : Stance). opening_in (opening_by s)) c.begin_scan.ensures.stance in (
      x,
      c.look.ensures.event
          ∙ (λ i. local_after n (c.begin_scan.ensures.local.1 i) (Look c.args.region 0 x (op i)))
          ∙ first_goes n (local_with c.args.caller.now) c.args.region
          (opening_at c.args.caller.now c.args.region) x
          (begins_with c.args.region (stance_of c.args.caller.now).reply),
    )
