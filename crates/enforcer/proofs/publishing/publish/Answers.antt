use Rattle.std.proofs.Common.{◌≡◌, false, ap, sym, subst, ◌∙◌}
use Rattle.world_core.specs.declared.region.Region.TheVariants.{M}
use Rattle.world_core.specs.Local.{Local}
use Rattle.world_core.specs.Event.{is_view_under_way}
use Rattle.row_table.specs.declared.stance.Stance.{Stance}
use Rattle.row_table.specs.Callers.{shape_of, who_of, local_with, stance_of}
use Rattle.collect_scan.specs.Turns.{stance_scanned}
use Rattle.report_lines.specs.Phases.{progress_of}
use Rattle.drv_wrapper.specs.Growth.{Grows}
use Rattle.enforcer.specs.Recorded.{IsPublishing}
use Rattle.enforcer.proofs.Standing.{publishing_is, publishing_is_free, may_scan}
use Rattle.enforcer.proofs.Publications.{readies_of, publication}
use Rattle.enforcer.proofs.publishing.publish.Goals as goal

pub scan-cut-requires-clause-caller : goal.scan-cut-requires-clause-caller
scan-cut-requires-clause-caller g c =
    c.into_caller-caller.ensures.caller.rows g.P.Program.meaning c.args.rows.now c.requires.rows

pub scan-cut-requires-clause-begins : goal.scan-cut-requires-clause-begins
scan-cut-requires-clause-begins g c =
    let s = shape_of g.P.Program.meaning c.args.rows.now in
    let v = c.args.viewed in
    let caller = c.into_caller-caller.result in
    let l = local_with v.caller in
    let free =
    subst (λ (m : Local). is_view_under_way m.scan ≡ false)
    (sym c.into_caller-caller.ensures.caller.local)
    (publishing_is_free s (who_of v.caller) l c.requires.rows.seat.local
    (publishing_is l.phase v.recorded.publishing)) in
    record { free = free; begins = may_scan s (who_of caller) (local_with caller) free }

pub publish_row-requires-clause-may : goal.publish_row-requires-clause-may
publish_row-requires-clause-may g c =
    let v = c.args.viewed in
    (readies_of (shape_of g.P.Program.meaning c.args.rows.now) v.op v.record
    c.record-record.result c.scan-cut.result
    (stance_of c.into_caller-caller.result) (local_with v.caller)
    (local_with c.into_caller-caller.result)
    (local_with c.scan-cut.new.caller) c.record-record.ensures
    c.into_caller-caller.ensures.caller.local c.requires.wide c.scan-cut.ensures.wide
    v.recorded c.scan-cut.ensures.scanned).may

pub invariant_of-result : goal.invariant_of-result
invariant_of-result g c =
    let v = c.args.viewed in
    record {
      publishing =
          subst (IsPublishing c.record-record.result)
          (sym c.publish_row.ensures.published)
          (readies_of (shape_of g.P.Program.meaning c.args.rows.now) v.op v.record
          c.record-record.result c.scan-cut.result
          (stance_of c.into_caller-caller.result)
          (local_with v.caller) (local_with c.into_caller-caller.result)
          (local_with c.scan-cut.new.caller) c.record-record.ensures
          c.into_caller-caller.ensures.caller.local
          c.requires.wide c.scan-cut.ensures.wide v.recorded c.scan-cut.ensures.scanned).published;
      stands =
          c.publish_row.ensures.stance
          ∙ c.scan-cut.ensures.stance
          ∙ ap (λ (stance : Stance). stance_scanned stance M)
          (c.into_caller-caller.ensures.stance ∙ v.stands);
    }

pub returns-clause-progress : goal.returns-clause-progress
returns-clause-progress g c =
    let v = c.args.viewed in
    ap progress_of c.publish_row.ensures.published
    ∙ (readies_of (shape_of g.P.Program.meaning c.args.rows.now) v.op v.record
    c.record-record.result c.scan-cut.result
    (stance_of c.into_caller-caller.result) (local_with v.caller)
    (local_with c.into_caller-caller.result)
    (local_with c.scan-cut.new.caller) c.record-record.ensures
    c.into_caller-caller.ensures.caller.local c.requires.wide
    c.scan-cut.ensures.wide v.recorded c.scan-cut.ensures.scanned).progress

pub returns-clause-grows : goal.returns-clause-grows
returns-clause-grows g c =
    let v = c.args.viewed in
    subst (Grows (local_with v.caller)) (sym c.publish_row.ensures.published)
    (readies_of (shape_of g.P.Program.meaning c.args.rows.now) v.op v.record
    c.record-record.result c.scan-cut.result
    (stance_of c.into_caller-caller.result) (local_with v.caller)
    (local_with c.into_caller-caller.result)
    (local_with c.scan-cut.new.caller) c.record-record.ensures
    c.into_caller-caller.ensures.caller.local c.requires.wide
    c.scan-cut.ensures.wide v.recorded c.scan-cut.ensures.scanned).grows

pub returns-clause-published : goal.returns-clause-published
returns-clause-published g c =
    let v = c.args.viewed in
    publication c.args.rows.now.callers v.op v.record c.scan-cut.result (local_with v.caller)
    (local_with c.into_caller-caller.result) (local_with c.scan-cut.new.caller)
    (local_with c.publish_row.new.caller) c.into_caller-caller.ensures.caller.local v.recorded
    c.scan-cut.ensures.scanned c.scan-cut.ensures.looked c.publish_row.ensures.published
