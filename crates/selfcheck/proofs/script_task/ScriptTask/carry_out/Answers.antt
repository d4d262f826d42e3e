use Rattle.selfcheck.proofs.script_task.ScriptTask.carry_out.Goals as goal

pub returns-in-Run-clause-ends : goal.returns-in-Run-clause-ends
returns-in-Run-clause-ends g c = rw c.in-Run.is c.run_behaviour.ensures.ends

pub returns-in-Replay-clause-ends : goal.returns-in-Replay-clause-ends
returns-in-Replay-clause-ends g c = rw c.in-Replay.is c.replay_behaviour.ensures.ends

pub returns-in-Certify-clause-ends : goal.returns-in-Certify-clause-ends
returns-in-Certify-clause-ends g c = rw c.in-Certify.is c.run_behaviour-in-Certify.ensures.ends
