use Rattle.std.proofs.Common.{subst}
use Rattle.model_checks.specs.declared.request.ModelRequest.TheVariants.{Leaves}
use Rattle.model_checks.specs.declared.request.ModelReply.{ModelReply}
use Rattle.call_handles.specs.Slots.{handle_in, HasServed}
use Rattle.selfcheck_c.proofs.models.selfcheck_model_leaves.Goals as goal

pub returns-in-Done-clause-promised : goal.returns-in-Done-clause-promised
returns-in-Done-clause-promised c = λ _.
    subst (λ (reply : ModelReply). HasServed (Leaves c.args.op c.args.reply) reply
    (handle_in c.args.slot.now) (handle_in c.serve.new.slot)) c.in-Done.is c.in-Some.ensures.served

pub returns-in-LeavesNot-clause-broken : goal.returns-in-LeavesNot-clause-broken
returns-in-LeavesNot-clause-broken c = λ _.
    subst (λ (reply : ModelReply). HasServed (Leaves c.args.op c.args.reply) reply
    (handle_in c.args.slot.now) (handle_in c.serve.new.slot)) c.in-LeavesNot.is
    c.in-Some.ensures.served
