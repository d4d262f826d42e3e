use Rattle.std.proofs.Common.{◌*◌, refl, arith}
use Rattle.shared_words.specs.Passes.{callers_of, cap_of}
use Rattle.test_objects.proofs.FaultyForming.{enqueued_is_made, one_pass_form}
use Rattle.test_objects.proofs.one_pass.QueueDeedsWordCalls.reply.Goals as goal

pub returns-clause-call : goal.returns-clause-call
returns-clause-call c =
    let w = c.args.words.now in
    enqueued_is_made (callers_of w * cap_of w) c.args.op _ _ _
    (omega arith) c.if-op-eq-DEQUEUE.false (omega arith) refl c.enqueue.ensures.call

pub returns-clause-form : goal.returns-clause-form
returns-clause-form c = one_pass_form _ _ _ _ _ (returns-clause-call c)
