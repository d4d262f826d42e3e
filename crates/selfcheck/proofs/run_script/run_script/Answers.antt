use Rattle.selfcheck.proofs.TaskLemmas.{EndsWriting-task}
use Rattle.selfcheck.proofs.run_script.run_script.Goals as goal

pub returns-in-Ok-clause-ends : goal.returns-in-Ok-clause-ends
returns-in-Ok-clause-ends g c =
    EndsWriting-task c.args.task c.args.behaviour _ _ c.args.bytes.now _ _ _ _ c.in-Ok.ensures.short
    c.in-Ok.ensures.script c.carry_out.ensures.ends
