use Rattle.std.proofs.Common.{◌≡◌, ℕ, ◌==◌, ◌↔◌, List, Option, Some, None, IsTrue, refl, sym, ap, subst, ◌∙◌}
use Rattle.seq_objects.specs.declared.queue.QueueOperation.{QueueOperation}
use Rattle.seq_objects.specs.declared.queue.QueueOperation.TheVariants.{Enqueue, Dequeue}
use Rattle.seq_objects.specs.Replies.{reply_done, reply_bad}
use Rattle.seq_objects.specs.QueueSteps.{queue_operation, queue_after}
use Rattle.seq_objects.proofs.Replying.{RepliesBy, replies_one, first_taken_replies}
use Rattle.seq_objects.proofs.queue.QueueSeqObject.may_reply.Goals as goal

pub returns-in-Some-Enqueue : goal.returns-in-Some-Enqueue
returns-in-Some-Enqueue c =
    let asked : queue_operation c.args.op ≡ Some (Enqueue c.in-Some-Enqueue.field-0-0) =
    sym c.from_word.ensures ∙ (c.in-Some-Enqueue.is ∙ ap Some c.in-Some-Enqueue.field-0-is) in
    let step : Option QueueOperation → List ℕ → List ℕ × ℕ = λ o list. queue_after list o in
    subst (λ o. IsTrue (c.args.reply == reply_done) ↔ RepliesBy (step o) c.args.reply)
    (sym asked)
    (replies_one (step (Some (Enqueue c.in-Some-Enqueue.field-0-0))) reply_done c.args.reply (λ list. refl))

pub returns-in-Some-Dequeue : goal.returns-in-Some-Dequeue
returns-in-Some-Dequeue c =
    let asked : queue_operation c.args.op ≡ Some Dequeue =
    sym c.from_word.ensures ∙ (c.in-Some-Dequeue.is ∙ ap Some c.in-Some-Dequeue.field-0-is) in
    let step : Option QueueOperation → List ℕ → List ℕ × ℕ = λ o list. queue_after list o in
    subst (λ o. IsTrue c.is_value_or_none.result ↔ RepliesBy (step o) c.args.reply) (sym asked)
    (first_taken_replies c.args.reply c.is_value_or_none.result c.is_value_or_none.ensures)

pub returns-in-None : goal.returns-in-None
returns-in-None c =
    let asked : queue_operation c.args.op ≡ None = sym c.from_word.ensures ∙ c.in-None.is in
    let step : Option QueueOperation → List ℕ → List ℕ × ℕ = λ o list. queue_after list o in
    subst (λ o. IsTrue (c.args.reply == reply_bad) ↔ RepliesBy (step o) c.args.reply)
    (sym asked) (replies_one (step None) reply_bad c.args.reply (λ list. refl))
