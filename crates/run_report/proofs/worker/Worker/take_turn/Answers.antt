use Rattle.std.proofs.Common.{◌≡◌, ◌∙◌, sym, subst, ap, refl, arith}
use Rattle.std.specs.Prelude.{Some}
use Rattle.std.proofs.lemmas.Bool.{false≢true}
use Rattle.std.proofs.lemmas.Option.{same_Some}
use Rattle.client_calls.specs.Stands.{GoesOnFrom}
use Rattle.client_calls.specs.declared.client.Client.{Client}
use Rattle.run_report.specs.declared.worker.Worker.{Worker}
use Rattle.run_report.proofs.Turning.{still_turned, phase_turned}
use Rattle.run_report.proofs.worker.Worker.take_turn.Goals as goal
use Rattle.run_report.proofs.worker.Worker.take_turn.Goals.{then-goes_on, else-goes_on}

pub returns-then-self-eq0 : goal.returns-then-self-eq0
returns-then-self-eq0 g c course i turns h =
    still_turned _ _ _ _ _ _ course i turns _ _ refl refl (λ k here goes. c.if-self-eq0.true) h

pub returns : goal.returns
returns g c =
    let was : c.args.self.now.client ≡ Some c.unwrap-client.result =
    sym c.take.ensures.value ∙ c.unwrap-client.ensures in
    elim c.if-goes_on.branch [
      | then-goes_on w ↦ λ course i turns h.
          let d = w.advance-client.ensures in
          phase_turned _ _ _ _ _ _ course i turns c.args.self.now _ c.unwrap-client.result
          w.advance-client.result was (c.replace.ensures.after ∙ ap (λ k. Some k) w.client-is)
          d.work d.same (c.goes_on.ensures.0 w.if-goes_on.true) d.phase
          (omega (arith, ap (λ (v : Worker _ _ _). v.allotment) w.self-is, c.if-self-eq0.false)) h
      | else-goes_on w ↦ λ course i turns h.
          still_turned _ _ _ _ _ _ course i turns c.args.self.now _
          (c.replace.ensures.after ∙ ap (λ k. Some k) w.client-is ∙ sym was)
          (ap (λ (v : Worker _ _ _). v.allotment) w.self-is)
          (λ k here goes. absurd (false≢true (sym w.if-goes_on.false ∙ c.goes_on.ensures.1
          (subst (λ (e : Client _ _ _). GoesOnFrom e.stand)
          (same_Some k c.unwrap-client.result (sym here ∙ was)) goes)))) h
    ]
