use Rattle.std.proofs.Common.{not, IsTrue, sym, ap, subst}
use Rattle.world_core.specs.Event as event
use Rattle.row_table.specs.Callers.{shape_of, who_of, local_with}
use Rattle.collect_scan.proofs.Owning.{view_scans_have_phase}
use Rattle.collect_scan.proofs.laws.plain_scan_may_begin.Goals as goal

pub returns : goal.returns
returns g c =
    let l = local_with c.args.caller.now in
    let s = shape_of g.P.Program.meaning c.args.rows.now in
    let free = view_scans_have_phase s
    (who_of c.args.caller.now) l c.requires.caller.seat.local c.requires.phase in
    record {
      free = free;
      begins = subst (λ (o : event.Opening).
          IsTrue (event.may_begin s (who_of c.args.caller.now) l c.args.region 0 o))
          (sym c.requires.plain) (ap not free);
    }
