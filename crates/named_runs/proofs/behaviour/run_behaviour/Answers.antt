use Rattle.seq_objects.specs.Objects.{kind_spec}
use Rattle.named_runs.specs.Runs.{RunEnds}
use Rattle.named_runs.specs.BehaviourRuns.{IsSeenRunReport}
use Rattle.named_runs.proofs.FreshRuns.{RunEnds-weaker}
use Rattle.named_runs.proofs.InsideRuns.{named_outside}
use Rattle.std.proofs.Common.{subst}
use Rattle.named_runs.proofs.behaviour.run_behaviour.Goals as goal

pub returns-in-None-clause-ends : goal.returns-in-None-clause-ends
returns-in-None-clause-ends g c =
    let none = rw c.in-None.is at c.run_inside.ensures.outside in
    let plan = c.args.script.now in
    let shown' = g.W.Onlooker.shown c.run_outside.new.watch in
    let taken' = g.K.Sink.taken c.run_outside.new.sink in
    subst (λ watch. RunEnds (kind_spec plan.kind)
    (IsSeenRunReport c.args.behaviour plan (g.W.Onlooker.shown watch) shown') c.args.form
    c.run_outside.result (g.K.Sink.taken c.args.sink.now) taken') none.2
    (subst (λ sink. RunEnds (kind_spec plan.kind)
    (IsSeenRunReport c.args.behaviour plan (g.W.Onlooker.shown c.run_inside.new.watch) shown')
    c.args.form c.run_outside.result (g.K.Sink.taken sink) taken') none.1
    (RunEnds-weaker _ _ _ _ _ _ _ (named_outside c.args.behaviour plan _ _ none.0)
    c.run_outside.ensures.ends))
