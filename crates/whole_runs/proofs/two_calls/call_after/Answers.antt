use Rattle.std.proofs.Common.{◌≡◌, ◌∙◌, Option, Some, ap}
use Rattle.world_core.specs.declared.program.Outside.{Outside}
use Rattle.row_table.specs.declared.caller.Caller.{Caller}
use Rattle.enforcer.specs.States.{caller_seen}
use Rattle.test_objects.specs.Passes.{caller_of_pass}
use Rattle.whole_runs.specs.declared.two_calls.End.{End}
use Rattle.whole_runs.proofs.Seats.{there_again}
use Rattle.whole_runs.proofs.two_calls.call_after.Goals as goal
use Rattle.whole_runs.proofs.two_calls.call_after.Goals.{in-Ok, in-Err}

-- the caller of a call that has ended is the one of its branch
returned : {a b : Caller Outside × End} → a ≡ b → ◌≡◌ {A = Option (Caller Outside)} (Some a.0) (Some b.0)
returned e = ap (λ (p : Caller Outside × End). Some p.0) e

pub returns-clause-caller : goal.returns-clause-caller
returns-clause-caller g c = elim c.match-judge_seen.branch [
  | in-Ok w ↦ there_again _ c.args.rows.now (caller_of_pass c.args.seat.now.pass)
      c.args.seat.now.caller c.take.result c.replace.new.self c.in-Some.caller
      (caller_seen c.call_and_see-seen.result) w.in-Ok.caller c.requires.caller
      c.take.ensures.value c.in-Some.is c.call_and_see-seen.ensures.caller
      w.in-Ok.ensures.caller (c.replace.ensures.after ∙ returned w.caller-is)
  | in-Err w ↦ there_again _ c.args.rows.now (caller_of_pass c.args.seat.now.pass)
      c.args.seat.now.caller c.take.result c.replace.new.self c.in-Some.caller
      (caller_seen c.call_and_see-seen.result) w.stop.result c.requires.caller
      c.take.ensures.value c.in-Some.is c.call_and_see-seen.ensures.caller (
        w.stop.ensures.same.rows _ c.args.rows.now w.in-Err.ensures.unjudged_caller.0,
        w.stop.ensures.same.who ∙ w.in-Err.ensures.unjudged_caller.1,
      ) (c.replace.ensures.after ∙ returned w.caller-is)
]
