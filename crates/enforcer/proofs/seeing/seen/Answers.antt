use Rattle.std.proofs.Common.{ap, ◌∙◌}
use Rattle.world_core.specs.declared.region.Region.TheVariants.{M}
use Rattle.row_table.specs.declared.stance.Stance.{Stance}
use Rattle.row_table.specs.Callers.{shape_of, who_of, local_with}
use Rattle.collect_scan.specs.Turns.{stance_scanned}
use Rattle.enforcer.proofs.Standing.{judging_is, judging_is_free, may_scan}
use Rattle.enforcer.proofs.SeenCuts.{sees, sight}
use Rattle.enforcer.proofs.seeing.seen.Goals as goal

pub scan-cut-requires-clause-begins : goal.scan-cut-requires-clause-begins
scan-cut-requires-clause-begins g c =
    let s = shape_of g.P.Program.meaning c.args.rows.now in
    let p = c.args.published in
    let free = judging_is_free s (who_of p.caller) (local_with p.caller) c.requires.rows.seat.local
    (judging_is (local_with p.caller).phase p.publishing.judging) in
    record { free = free; begins = may_scan s (who_of p.caller) (local_with p.caller) free }

pub invariant_of-result : goal.invariant_of-result
invariant_of-result g c =
    let p = c.args.published in
    let leaves =
    sees (shape_of g.P.Program.meaning c.args.rows.now) (who_of p.caller)
    (who_of c.scan-cut.new.caller) p.record c.scan-cut.result (local_with p.caller)
    (local_with c.scan-cut.new.caller) c.requires.rows.seat.local
    c.scan-cut.ensures.caller.0.seat.local p.publishing c.scan-cut.ensures.scanned in
    record {
      saw = leaves.saw;
      own = leaves.own;
      stands =
          c.scan-cut.ensures.stance ∙ ap (λ (stance : Stance). stance_scanned stance M) p.stands;
    }

pub returns-clause-own : goal.returns-clause-own
returns-clause-own g c =
    let p = c.args.published in
    (sees (shape_of g.P.Program.meaning c.args.rows.now) (who_of p.caller)
    (who_of c.scan-cut.new.caller) p.record c.scan-cut.result (local_with p.caller)
    (local_with c.scan-cut.new.caller) c.requires.rows.seat.local
    c.scan-cut.ensures.caller.0.seat.local p.publishing c.scan-cut.ensures.scanned).own

pub returns-clause-progress : goal.returns-clause-progress
returns-clause-progress g c =
    let p = c.args.published in
    (sees (shape_of g.P.Program.meaning c.args.rows.now) (who_of p.caller)
    (who_of c.scan-cut.new.caller) p.record c.scan-cut.result (local_with p.caller)
    (local_with c.scan-cut.new.caller) c.requires.rows.seat.local
    c.scan-cut.ensures.caller.0.seat.local p.publishing c.scan-cut.ensures.scanned).progress

pub returns-clause-grows : goal.returns-clause-grows
returns-clause-grows g c =
    let p = c.args.published in
    (sees (shape_of g.P.Program.meaning c.args.rows.now) (who_of p.caller)
    (who_of c.scan-cut.new.caller) p.record c.scan-cut.result (local_with p.caller)
    (local_with c.scan-cut.new.caller) c.requires.rows.seat.local
    c.scan-cut.ensures.caller.0.seat.local p.publishing c.scan-cut.ensures.scanned).grows

pub returns-clause-seen : goal.returns-clause-seen
returns-clause-seen g c =
    let p = c.args.published in
    sight c.args.rows.now.callers p.record c.scan-cut.result (local_with p.caller)
    (local_with c.scan-cut.new.caller) p.publishing c.scan-cut.ensures.scanned
    c.scan-cut.ensures.looked
