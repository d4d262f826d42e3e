use Rattle.std.proofs.Common.{◌≡◌, ◌<◌, Bool, true, false, ◌++◌, ◌∷◌, [], sym, ap, ◌∙◌, subst, arith}
use Rattle.world_core.specs.Calls.{IsLocalOf}
use Rattle.row_table.specs.declared.caller.Caller.{Caller}
use Rattle.row_table.specs.declared.stance.Stance.{Stance}
use Rattle.row_table.specs.Callers.{shape_of, who_of, local_with, stance_of}
use Rattle.collect_scan.specs.Scanned.{most_words}
use Rattle.collect_scan.specs.Turns.{scanner_of, region_of, has_begun, opening_at, MayTurnAs}
use Rattle.collect_scan.proofs.Turning.{scanning_short, scans_on, has_turned, may_turn}
use Rattle.collect_scan.proofs.turns.Scan.turn.Goals as goal
use Rattle.collect_scan.proofs.turns.Scan.turn.Goals.{then-self, else-self}

pub returns-clause-first : goal.returns-clause-first
returns-clause-first g c unbegun =
    let n = c.args.rows.now.callers in
    let region = c.args.self.now.region in
    let some : 0 < n = omega (arith, c.requires.caller.seat.who) in
    let few : 0 < most_words n = omega (arith, some) in
    elim c.if-self.branch [
      | then-self w ↦ absurd (let never : false ≡ true = sym unbegun ∙ w.if-self.true in cc)
      | else-self w ↦
          let x = w.set_out.ensures.taken in
          has_turned (shape_of g.P.Program.meaning c.args.rows.now) (who_of c.if-self.caller) region
          (local_with c.if-self.caller) (local_with c.args.caller.now)
          (opening_at c.args.caller.now region) [] x.0 c.given.result
          (subst (λ (d : Caller g.row.P.Denot).
          IsLocalOf (shape_of g.P.Program.meaning c.args.rows.now) (who_of d) (local_with d))
          (sym w.caller-is) w.set_out.ensures.caller.0.seat.local)
          (ap local_with w.caller-is ∙ x.1) c.given.ensures few
    ]

pub returns-clause-later : goal.returns-clause-later
returns-clause-later g c before opening taken begun is =
    let region = c.args.self.now.region in
    let may =
    subst (λ (b : Bool). MayTurnAs b g.P.Program.meaning c.args.rows.now c.args.caller.now region)
    begun c.requires.turn.may in
    let few = scanning_short (shape_of g.P.Program.meaning c.args.rows.now)
    (who_of c.args.caller.now) region (local_with c.args.caller.now) c.requires.caller.seat.local
    may.scanning before opening taken is in
    elim c.if-self.branch [
      | then-self w ↦
          let x = w.go_on.ensures.taken before opening taken is in
          has_turned (shape_of g.P.Program.meaning c.args.rows.now) (who_of c.if-self.caller) region
          (local_with c.if-self.caller) before opening taken x.0 c.given.result
          (subst (λ (d : Caller g.row.P.Denot).
          IsLocalOf (shape_of g.P.Program.meaning c.args.rows.now) (who_of d) (local_with d))
          (sym w.caller-is) w.go_on.ensures.caller.0.seat.local)
          (ap local_with w.caller-is ∙ x.1) c.given.ensures few
      | else-self w ↦ absurd (let never : false ≡ true = sym w.if-self.false ∙ begun in cc)
    ]

pub returns-clause-goes_on : goal.returns-clause-goes_on
returns-clause-goes_on g c none =
    let region = c.args.self.now.region in
    let gives = sym c.given.ensures ∙ none in
    elim c.if-self.branch [
      | then-self w ↦
          let may = subst
          (λ (b : Bool). MayTurnAs b g.P.Program.meaning c.args.rows.now c.args.caller.now region)
          w.if-self.true c.requires.turn.may in
          let h = may.scanning in
          let x = w.go_on.ensures.taken h.before h.opening h.taken h.is in
          may_turn g.P.Program.meaning c.args.rows.now c.if-self.caller c.if-self.self region
          (ap has_begun w.self-is ∙ w.if-self.true) (ap region_of w.self-is)
          (ap scanner_of w.self-is ∙ c.requires.turn.who ∙ sym w.go_on.ensures.caller.1
          ∙ ap who_of (sym w.caller-is))
          (ap (λ (d : Caller g.row.P.Denot). (stance_of d).begins) w.caller-is
          ∙ ap (λ (s : Stance). s.begins) w.go_on.ensures.stance ∙ may.plain)
          (scans_on (shape_of g.P.Program.meaning c.args.rows.now) (who_of c.if-self.caller) region
          (local_with c.if-self.caller) h.before h.opening (h.taken ++ x.0 ∷ [])
          (subst (λ (d : Caller g.row.P.Denot).
          IsLocalOf (shape_of g.P.Program.meaning c.args.rows.now) (who_of d) (local_with d))
          (sym w.caller-is) w.go_on.ensures.caller.0.seat.local)
          (ap local_with w.caller-is ∙ x.1) gives)
      | else-self w ↦
          let x = w.set_out.ensures.taken in
          may_turn g.P.Program.meaning c.args.rows.now c.if-self.caller c.if-self.self region
          (ap has_begun w.self-is) (ap region_of w.self-is)
          (ap scanner_of w.self-is ∙ c.requires.turn.who ∙ sym w.set_out.ensures.caller.1
          ∙ ap who_of (sym w.caller-is))
          (ap (λ (d : Caller g.row.P.Denot). (stance_of d).begins) w.caller-is
          ∙ ap (λ (s : Stance). s.begins) w.set_out.ensures.stance)
          (scans_on (shape_of g.P.Program.meaning c.args.rows.now) (who_of c.if-self.caller) region
          (local_with c.if-self.caller) (local_with c.args.caller.now)
          (opening_at c.args.caller.now region) (x.0 ∷ [])
          (subst (λ (d : Caller g.row.P.Denot).
          IsLocalOf (shape_of g.P.Program.meaning c.args.rows.now) (who_of d) (local_with d))
          (sym w.caller-is) w.set_out.ensures.caller.0.seat.local)
          (ap local_with w.caller-is ∙ x.1) gives)
    ]
