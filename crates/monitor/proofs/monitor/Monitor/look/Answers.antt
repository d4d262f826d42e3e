use Rattle.std.proofs.Common.{ℕ, sym, ap, subst, not, Option, IfSome}
use Rattle.std.specs.Prelude.{Ok}
use Rattle.row_table.specs.Callers.{shape_of, who_of, local_with}
use Rattle.row_gather.specs.declared.gathered.Gathered.{Gathered}
use Rattle.row_gather.specs.Gathered.{IsGatheredBy}
use Rattle.drv_wrapper.proofs.Locals.{announcing_is_free}
use Rattle.enforcer.specs.Verdicts.{IsGatheredWithin}
use Rattle.enforcer.proofs.Grown.{stands_on}
use Rattle.monitor.proofs.Resting.{given_once, kept_once, rests_scanned, rests_peeked, ok_gathered, ok_ticks}
use Rattle.monitor.proofs.monitor.Monitor.look.Goals as goal

pub scan-cut-requires-clause-begins : goal.scan-cut-requires-clause-begins
scan-cut-requires-clause-begins g c =
    let s = shape_of g.P.Program.meaning c.args.rows.now in
    let m = c.args.self.now.caller in
    let rest = c.requires.rows.resting in
    let free =
    announcing_is_free s (who_of m) (local_with m) rest.caller.seat.local rest.idle.announcing in
    record { free = free; begins = ap not free }

pub grow_at-requires-clause-given : goal.grow_at-requires-clause-given
grow_at-requires-clause-given g c =
    given_once _ _ _ (rests_scanned _ c.scan-cut.result (local_with c.args.self.now.caller)
    (local_with c.scan-cut.new.caller) c.requires.rows.resting.idle c.scan-cut.ensures.scanned).once

pub grow_at-requires-clause-gathered : goal.grow_at-requires-clause-gathered
grow_at-requires-clause-gathered g c =
    let rests = rests_scanned _ c.scan-cut.result (local_with c.args.self.now.caller)
    (local_with c.scan-cut.new.caller) c.requires.rows.resting.idle c.scan-cut.ensures.scanned in
    subst (λ (o : Option Gathered). IsGatheredBy (local_with c.scan-cut.new.caller) o)
    (sym c.take-kept.ensures.value)
    (kept_once _ _ _ c.args.self.now.gathered rests.once c.requires.rows.gathered)

pub returns-in_err-found-clause-scanned : goal.returns-in_err-found-clause-scanned
returns-in_err-found-clause-scanned g c =
    let rests = rests_scanned _ c.scan-cut.result (local_with c.args.self.now.caller)
    (local_with c.scan-cut.new.caller) c.requires.rows.resting.idle c.scan-cut.ensures.scanned in (
      c.scan-cut.result,
      (rests_peeked _ _ _ (local_with c.grow_at.new.caller) _ _ rests c.grow_at.ensures.peeks).once,
    )

pub returns-clause-scanned : goal.returns-clause-scanned
returns-clause-scanned g c =
    let rests = rests_scanned _ c.scan-cut.result (local_with c.args.self.now.caller)
    (local_with c.scan-cut.new.caller) c.requires.rows.resting.idle c.scan-cut.ensures.scanned in (
      c.scan-cut.result,
      (rests_peeked _ _ _ (local_with c.grow_at.new.caller) _ _ rests c.grow_at.ensures.peeks).once,
    )

pub returns-clause-gathered : goal.returns-clause-gathered
returns-clause-gathered g c =
    let rests = rests_scanned _ c.scan-cut.result (local_with c.args.self.now.caller)
    (local_with c.scan-cut.new.caller) c.requires.rows.resting.idle c.scan-cut.ensures.scanned in
    ok_gathered {E = ℕ} c.args.rows.now.callers c.scan-cut.result
    (local_with c.args.self.now.caller) (local_with c.grow_at.new.caller) (Ok c.in_ok-found.found)
    (rests_peeked _ _ _ (local_with c.grow_at.new.caller) _ _ rests c.grow_at.ensures.peeks).once
    c.in_ok-found.ensures.cut c.in_ok-found.ensures.gathered

pub returns-clause-stands : goal.returns-clause-stands
returns-clause-stands g c spec stands =
    let d = c.grow_at.new.caller in
    let kept = c.args.self.now.gathered in
    let rests = rests_scanned _ c.scan-cut.result (local_with c.args.self.now.caller)
    (local_with c.scan-cut.new.caller) c.requires.rows.resting.idle c.scan-cut.ensures.scanned in
    let once = (rests_peeked _ _ _ (local_with d) _ _ rests c.grow_at.ensures.peeks).once in
    let held = subst (λ (o : Option Gathered).
    IfSome c.standing_in-before.result (λ _. IsGatheredWithin c.callers.result o c.scan-cut.result))
    c.take-kept.ensures.value c.standing_in-before.ensures.held in
    stands_on spec (shape_of g.P.Program.meaning c.args.rows.now) (who_of d) c.callers.result
    (local_with d) kept c.args.standing c.standing_in-before.result c.scan-cut.result
    c.in_ok-found.found.book c.callers.ensures
    c.grow_at.ensures.caller.0.seat.local (kept_once _ _ _ kept once c.requires.rows.gathered)
    c.in_ok-found.ensures.gathered stands c.standing_in-before.ensures.same held

pub returns-clause-ticks : goal.returns-clause-ticks
returns-clause-ticks g c =
    ok_ticks {E = ℕ} c.args.rows.now.callers c.args.self.now.gathered c.take-kept.result
    c.args.steps.now c.scan-cut.new.steps c.grow_at.new.steps
    (Ok c.in_ok-found.found) c.take-kept.ensures.value
    c.scan-cut.ensures.ticks.0 c.scan-cut.ensures.ticks.1 c.in_ok-found.ensures.ticks
