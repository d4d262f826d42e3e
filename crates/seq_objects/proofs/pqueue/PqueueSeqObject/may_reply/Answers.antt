use Rattle.std.proofs.Common.{◌≡◌, ℕ, ◌==◌, ◌↔◌, List, Option, Some, None, IsTrue, refl, sym, ap, subst, ◌∙◌}
use Rattle.seq_objects.specs.declared.pqueue.PqueueOperation.{PqueueOperation}
use Rattle.seq_objects.specs.declared.pqueue.PqueueOperation.TheVariants.{Insert, Min}
use Rattle.seq_objects.specs.Replies.{reply_done, reply_bad}
use Rattle.seq_objects.specs.PqueueSteps.{pqueue_operation, pqueue_after}
use Rattle.seq_objects.proofs.Replying.{RepliesBy, replies_one, first_taken_replies}
use Rattle.seq_objects.proofs.pqueue.PqueueSeqObject.may_reply.Goals as goal

pub returns-in-Some-Insert : goal.returns-in-Some-Insert
returns-in-Some-Insert c =
    let asked : pqueue_operation c.args.op ≡ Some (Insert c.in-Some-Insert.field-0-0) =
    sym c.from_word.ensures ∙ (c.in-Some-Insert.is ∙ ap Some c.in-Some-Insert.field-0-is) in
    let step : Option PqueueOperation → List ℕ → List ℕ × ℕ = λ o list. pqueue_after list o in
    subst (λ o. IsTrue (c.args.reply == reply_done) ↔ RepliesBy (step o) c.args.reply)
    (sym asked)
    (replies_one (step (Some (Insert c.in-Some-Insert.field-0-0))) reply_done c.args.reply (λ list. refl))

pub returns-in-Some-Min : goal.returns-in-Some-Min
returns-in-Some-Min c =
    let asked : pqueue_operation c.args.op ≡ Some Min =
    sym c.from_word.ensures ∙ (c.in-Some-Min.is ∙ ap Some c.in-Some-Min.field-0-is) in
    let step : Option PqueueOperation → List ℕ → List ℕ × ℕ = λ o list. pqueue_after list o in
    subst (λ o. IsTrue c.is_value_or_none.result ↔ RepliesBy (step o) c.args.reply) (sym asked)
    (first_taken_replies c.args.reply c.is_value_or_none.result c.is_value_or_none.ensures)

pub returns-in-None : goal.returns-in-None
returns-in-None c =
    let asked : pqueue_operation c.args.op ≡ None = sym c.from_word.ensures ∙ c.in-None.is in
    let step : Option PqueueOperation → List ℕ → List ℕ × ℕ = λ o list. pqueue_after list o in
    subst (λ o. IsTrue (c.args.reply == reply_bad) ↔ RepliesBy (step o) c.args.reply)
    (sym asked) (replies_one (step None) reply_bad c.args.reply (λ list. refl))
