use Rattle.std.proofs.Common.{subst}
use Rattle.model_checks.specs.declared.request.ModelRequest.TheVariants.{Tell}
use Rattle.model_checks.specs.declared.request.ModelReply.{ModelReply}
use Rattle.call_handles.specs.Slots.{handle_in, HasServed}
use Rattle.selfcheck_c.proofs.models.selfcheck_model_tell.Goals as goal

pub returns-in-Done-clause-told : goal.returns-in-Done-clause-told
returns-in-Done-clause-told c = λ _.
    subst (λ (reply : ModelReply). HasServed (Tell (record {
      state = c.args.state;
      op = c.args.op;
      next = c.args.next;
      reply = c.args.reply;
    })) reply (handle_in c.args.slot.now) (handle_in c.serve.new.slot)) c.in-Done.is c.in-Some.ensures.served

pub returns-in-Contradicts-clause-contradicts : goal.returns-in-Contradicts-clause-contradicts
returns-in-Contradicts-clause-contradicts c = λ _.
    subst (λ (reply : ModelReply). HasServed (Tell (record {
      state = c.args.state;
      op = c.args.op;
      next = c.args.next;
      reply = c.args.reply;
    })) reply (handle_in c.args.slot.now) (handle_in c.serve.new.slot)) c.in-Contradicts.is c.in-Some.ensures.served

pub returns-in-LeavesNot-clause-broken : goal.returns-in-LeavesNot-clause-broken
returns-in-LeavesNot-clause-broken c = λ _.
    subst (λ (reply : ModelReply). HasServed (Tell (record {
      state = c.args.state;
      op = c.args.op;
      next = c.args.next;
      reply = c.args.reply;
    })) reply (handle_in c.args.slot.now) (handle_in c.serve.new.slot)) c.in-LeavesNot.is c.in-Some.ensures.served
