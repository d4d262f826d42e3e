use Rattle.seq_objects.specs.Objects.{kind_spec}
use Rattle.refutations.proofs.Refuting.{impossible_replies_have_no_order}
use Rattle.refutations.proofs.Replies.{impossible-from_call}
use Rattle.refutations.proofs.impossible.has_impossible_reply.Goals as goal

pub returns-clause-impossible : goal.returns-clause-impossible
returns-clause-impossible c =
    impossible-from_call c.args.kind c.args.book.now c.args.call c.op.result c.reply.result
    c.may_reply.result c.op.ensures c.reply.ensures c.may_reply.ensures

pub returns-clause-none : goal.returns-clause-none
returns-clause-none c h = impossible_replies_have_no_order (kind_spec c.args.kind) c.args.book.now
    c.args.call ((impossible-from_call c.args.kind c.args.book.now c.args.call c.op.result
    c.reply.result c.may_reply.result c.op.ensures c.reply.ensures c.may_reply.ensures).0 h)
