use Rattle.std.proofs.Common.{◌≡◌, ◌+◌, ◌<◌, ◌++◌, ◌∷◌, [], length, sym, ap, ◌∙◌, arith, length-append}
use Rattle.row_table.specs.declared.stance.Stance.{Stance}
use Rattle.row_table.specs.Callers.{shape_of, who_of, local_with}
use Rattle.row_table.specs.Notes.{given_now}
use Rattle.collect_scan.specs.Scanned.{local_in_scan}
use Rattle.collect_scan.specs.Turns.{opening_at}
use Rattle.collect_scan.proofs.Ending.{stood_goes, stood_stays, stood_scanned, stood_ticked}
use Rattle.collect_scan.proofs.Owning.{cuts_hold_looks}
use Rattle.collect_scan.proofs.Turning.{scanning_short, scans_on, scanned_wide, left_fewer}
use Rattle.collect_scan.proofs.whole.scan.Goals as goal

pub returns-in-Some-clause-scanned : goal.returns-in-Some-clause-scanned
returns-in-Some-clause-scanned g c =
    let h = c.loop-cut.invariant in
    stood_scanned c.args.rows.now.callers (local_with c.args.caller.now) c.args.region
    (opening_at c.args.caller.now c.args.region) h.taken c.in-Some.cut
    (local_with c.loop-cut.caller)
    (ap given_now (sym h.stood) ∙ sym c.given.ensures ∙ c.in-Some.is) h.few h.stood

pub returns-in-Some-clause-exact : goal.returns-in-Some-clause-exact
returns-in-Some-clause-exact g c =
    let h = c.loop-cut.invariant in
    stood_ticked c.args.rows.now.callers (local_with c.args.caller.now) c.args.region
    (opening_at c.args.caller.now c.args.region) h.taken c.in-Some.cut
    (local_with c.loop-cut.caller)
    c.args.steps.now c.loop-cut.steps
    (ap given_now (sym h.stood) ∙ sym c.given.ensures ∙ c.in-Some.is) h.few h.stood h.ticks

pub returns-in-Some-clause-wide : goal.returns-in-Some-clause-wide
returns-in-Some-clause-wide g c =
    let some : 0 < c.args.rows.now.callers = omega (arith, c.requires.caller.seat.who) in
    scanned_wide c.args.rows.now.callers c.args.region (opening_at c.args.caller.now c.args.region)
    c.in-Some.cut (local_with c.args.caller.now) (local_with c.loop-cut.caller) some
    (returns-in-Some-clause-scanned g c)

pub returns-in-Some-clause-looked : goal.returns-in-Some-clause-looked
returns-in-Some-clause-looked g c =
    cuts_hold_looks (shape_of g.P.Program.meaning c.args.rows.now)
    (who_of c.loop-cut.caller) c.args.region
    (opening_at c.args.caller.now c.args.region) c.in-Some.cut (local_with c.args.caller.now)
    (local_with c.loop-cut.caller) c.loop-cut.invariant.still.0.seat.local
    (returns-in-Some-clause-scanned g c)

-- Where the local gives no cut yet, the scan that the loop has begun is under way and isn't done.
pub go_on-requires-clause-goes : goal.go_on-requires-clause-goes
go_on-requires-clause-goes g c =
    let h = c.loop-cut.invariant in
    record {
      plain = ap (λ (s : Stance). s.begins) h.stance;
      scanning =
          scans_on (shape_of g.P.Program.meaning c.args.rows.now) (who_of c.loop-cut.caller)
          c.args.region (local_with c.loop-cut.caller) (local_with c.args.caller.now)
          (opening_at c.args.caller.now c.args.region) h.taken h.still.0.seat.local h.stood
          (sym c.given.ensures ∙ c.in_default.is);
    }

pub loop-cut-smaller : goal.loop-cut-smaller
loop-cut-smaller g c =
    let n = c.args.rows.now.callers in
    let h = c.loop-cut.invariant in
    let before = local_with c.args.caller.now in
    let opening = opening_at c.args.caller.now c.args.region in
    let goes = stood_goes n before c.args.region opening h.taken
    (ap given_now (sym h.stood) ∙ sym c.given.ensures ∙ c.in_default.is) in
    let is : local_with c.loop-cut.caller ≡ local_in_scan n before c.args.region opening h.taken =
    h.stood ∙ stood_stays n before c.args.region opening h.taken goes in
    let on = scans_on (shape_of g.P.Program.meaning c.args.rows.now) (who_of c.loop-cut.caller)
    c.args.region (local_with c.loop-cut.caller) before opening h.taken h.still.0.seat.local h.stood
    (sym c.given.ensures ∙ c.in_default.is) in
    let few = scanning_short (shape_of g.P.Program.meaning c.args.rows.now)
    (who_of c.loop-cut.caller) c.args.region
    (local_with c.loop-cut.caller) h.still.0.seat.local on before opening h.taken is in
    let x = c.go_on.ensures.taken before opening h.taken is in
    left_fewer n (local_with c.loop-cut.caller)
    (local_with c.go_on.new.caller) before c.args.region opening h.taken x.0 is few x.1

pub loop-cut-preserved : goal.loop-cut-preserved
loop-cut-preserved g c =
    let n = c.args.rows.now.callers in
    let h = c.loop-cut.invariant in
    let before = local_with c.args.caller.now in
    let opening = opening_at c.args.caller.now c.args.region in
    let goes = stood_goes n before c.args.region opening h.taken
    (ap given_now (sym h.stood) ∙ sym c.given.ensures ∙ c.in_default.is) in
    let is : local_with c.loop-cut.caller ≡ local_in_scan n before c.args.region opening h.taken =
    h.stood ∙ stood_stays n before c.args.region opening h.taken goes in
    let on = scans_on (shape_of g.P.Program.meaning c.args.rows.now) (who_of c.loop-cut.caller)
    c.args.region (local_with c.loop-cut.caller) before opening h.taken h.still.0.seat.local h.stood
    (sym c.given.ensures ∙ c.in_default.is) in
    let few = scanning_short (shape_of g.P.Program.meaning c.args.rows.now)
    (who_of c.loop-cut.caller) c.args.region
    (local_with c.loop-cut.caller) h.still.0.seat.local on before opening h.taken is in
    let x = c.go_on.ensures.taken before opening h.taken is in
    let longer : length (h.taken ++ x.0 ∷ []) ≡ length h.taken + 1 =
    length-append h.taken (x.0 ∷ []) in
    record {
      still = (c.go_on.ensures.caller.0, c.go_on.ensures.caller.1 ∙ h.still.1);
      stance = c.go_on.ensures.stance ∙ h.stance;
      taken = h.taken ++ x.0 ∷ [];
      stood = x.1;
      few = omega (arith, few, longer);
      ticks = omega (arith, c.go_on.ensures.tick, h.ticks, longer);
    }
