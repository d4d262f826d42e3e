use Rattle.std.proofs.Common.{◌≡◌, ℕ, ◌==◌, ◌↔◌, not, List, [], length, Option, Some, IsTrue, inl, refl, sym, ap, subst, ◌∙◌, arith}
use Rattle.seq_objects.specs.declared.queue.QueueOperation.{QueueOperation}
use Rattle.seq_objects.specs.declared.queue.QueueOperation.TheVariants.{Enqueue, Dequeue}
use Rattle.seq_objects.specs.Replies.{reply_done}
use Rattle.seq_objects.specs.QueueSteps.{queue_operation, queue_after}
use Rattle.seq_objects.proofs.ReadOnly.{LeavesBy, leaves_but_with, first_taken_leaves}
use Rattle.seq_objects.proofs.queue.QueueSeqObject.leaves.Goals as goal

pub returns-in-Some-Enqueue : goal.returns-in-Some-Enqueue
returns-in-Some-Enqueue c =
    let asked : queue_operation c.args.op ≡ Some (Enqueue c.in-Some-Enqueue.field-0-0) =
    sym c.from_word.ensures ∙ (c.in-Some-Enqueue.is ∙ ap Some c.in-Some-Enqueue.field-0-is) in
    let step : Option QueueOperation → List ℕ → List ℕ × ℕ = λ o list. queue_after list o in
    subst (λ o. IsTrue (not (c.args.reply == reply_done)) ↔ LeavesBy (step o) c.args.reply)
    (sym asked)
    (leaves_but_with (step (Some (Enqueue c.in-Some-Enqueue.field-0-0))) reply_done c.args.reply
    (λ list. inl refl) ([], refl, λ same. omega (arith, ap length same)))

pub returns-in-Some-Dequeue : goal.returns-in-Some-Dequeue
returns-in-Some-Dequeue c =
    let asked : queue_operation c.args.op ≡ Some Dequeue =
    sym c.from_word.ensures ∙ (c.in-Some-Dequeue.is ∙ ap Some c.in-Some-Dequeue.field-0-is) in
    let step : Option QueueOperation → List ℕ → List ℕ × ℕ = λ o list. queue_after list o in
    subst (λ o. IsTrue (not c.is_value.result) ↔ LeavesBy (step o) c.args.reply) (sym asked)
    (first_taken_leaves c.args.reply c.is_value.result c.is_value.ensures)
