use Rattle.selfcheck.proofs.TaskLemmas.{EndsWriting-monitor}
use Rattle.selfcheck.proofs.monitor_script.monitor_script.Goals as goal

pub returns-in-Ok-clause-ends : goal.returns-in-Ok-clause-ends
returns-in-Ok-clause-ends g c =
    EndsWriting-monitor c.args.behaviour _ _ c.args.bytes.now _ _ _ _ c.in-Ok.ensures.short
    c.in-Ok.ensures.script c.in-Ok.ensures.few c.monitor_behaviour.ensures.ends
