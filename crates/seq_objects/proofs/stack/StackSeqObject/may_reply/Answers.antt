use Rattle.std.proofs.Common.{◌≡◌, ℕ, ◌==◌, ◌↔◌, List, Option, Some, None, IsTrue, refl, sym, ap, subst, ◌∙◌}
use Rattle.seq_objects.specs.declared.stack.StackOperation.{StackOperation}
use Rattle.seq_objects.specs.declared.stack.StackOperation.TheVariants.{Push, Pop}
use Rattle.seq_objects.specs.Replies.{reply_done, reply_bad}
use Rattle.seq_objects.specs.StackSteps.{stack_operation, stack_after}
use Rattle.seq_objects.proofs.Replying.{RepliesBy, replies_one, last_taken_replies}
use Rattle.seq_objects.proofs.stack.StackSeqObject.may_reply.Goals as goal

pub returns-in-Some-Push : goal.returns-in-Some-Push
returns-in-Some-Push c =
    let asked : stack_operation c.args.op ≡ Some (Push c.in-Some-Push.field-0-0) =
    sym c.from_word.ensures ∙ (c.in-Some-Push.is ∙ ap Some c.in-Some-Push.field-0-is) in
    let step : Option StackOperation → List ℕ → List ℕ × ℕ = λ o list. stack_after list o in
    subst (λ o. IsTrue (c.args.reply == reply_done) ↔ RepliesBy (step o) c.args.reply)
    (sym asked)
    (replies_one (step (Some (Push c.in-Some-Push.field-0-0))) reply_done c.args.reply (λ list. refl))

pub returns-in-Some-Pop : goal.returns-in-Some-Pop
returns-in-Some-Pop c =
    let asked : stack_operation c.args.op ≡ Some Pop =
    sym c.from_word.ensures ∙ (c.in-Some-Pop.is ∙ ap Some c.in-Some-Pop.field-0-is) in
    let step : Option StackOperation → List ℕ → List ℕ × ℕ = λ o list. stack_after list o in
    subst (λ o. IsTrue c.is_value_or_none.result ↔ RepliesBy (step o) c.args.reply) (sym asked)
    (last_taken_replies c.args.reply c.is_value_or_none.result c.is_value_or_none.ensures)

pub returns-in-None : goal.returns-in-None
returns-in-None c =
    let asked : stack_operation c.args.op ≡ None = sym c.from_word.ensures ∙ c.in-None.is in
    let step : Option StackOperation → List ℕ → List ℕ × ℕ = λ o list. stack_after list o in
    subst (λ o. IsTrue (c.args.reply == reply_bad) ↔ RepliesBy (step o) c.args.reply)
    (sym asked) (replies_one (step None) reply_bad c.args.reply (λ list. refl))
