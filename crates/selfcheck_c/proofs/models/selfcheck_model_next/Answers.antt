use Rattle.std.proofs.Common.{ap, subst, ◌∙◌}
use Rattle.model_checks.specs.declared.request.ModelRequest.TheVariants.{GoOn}
use Rattle.model_checks.specs.declared.request.ModelReply.{ModelReply}
use Rattle.model_checks.specs.declared.request.ModelReply.TheVariants.{Said}
use Rattle.call_handles.specs.Slots.{handle_in, HasServed}
use Rattle.selfcheck_c.proofs.Served.{unsaid}
use Rattle.selfcheck_c.proofs.models.selfcheck_model_next.Goals as goal

pub returns-in_default-reply-clause-no_memory : goal.returns-in_default-reply-clause-no_memory
returns-in_default-reply-clause-no_memory c = λ _.
    unsaid c.args.steps c.in-Some.reply (handle_in c.args.slot.now) (handle_in c.serve.new.slot)
    c.in-Some.ensures.served c.in_default-reply.not-Said

pub returns-in-Legal-clause-legal : goal.returns-in-Legal-clause-legal
returns-in-Legal-clause-legal c = λ _.
    subst (λ (reply : ModelReply). HasServed (GoOn c.args.steps) reply (handle_in c.args.slot.now)
    (handle_in c.serve.new.slot)) (c.in-Said.is ∙ ap Said c.in-Legal.is) c.in-Some.ensures.served

pub returns-in-Illegal-clause-illegal : goal.returns-in-Illegal-clause-illegal
returns-in-Illegal-clause-illegal c = λ _.
    subst (λ (reply : ModelReply). HasServed (GoOn c.args.steps) reply (handle_in c.args.slot.now)
    (handle_in c.serve.new.slot)) (c.in-Said.is ∙ ap Said c.in-Illegal.is) c.in-Some.ensures.served

pub returns-in-Ask-clause-ask : goal.returns-in-Ask-clause-ask
returns-in-Ask-clause-ask c = λ _.
    subst (λ (reply : ModelReply). HasServed (GoOn c.args.steps) reply (handle_in c.args.slot.now)
    (handle_in c.serve.new.slot)) (c.in-Said.is ∙ ap Said c.in-Ask.is) c.in-Some.ensures.served

pub returns-in-Paused-clause-paused : goal.returns-in-Paused-clause-paused
returns-in-Paused-clause-paused c = λ _.
    subst (λ (reply : ModelReply). HasServed (GoOn c.args.steps) reply (handle_in c.args.slot.now)
    (handle_in c.serve.new.slot)) (c.in-Said.is ∙ ap Said c.in-Paused.is) c.in-Some.ensures.served
