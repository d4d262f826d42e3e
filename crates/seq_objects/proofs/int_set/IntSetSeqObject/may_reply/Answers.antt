use Rattle.std.proofs.Common.{◌≡◌, ℕ, ◌==◌, ◌↔◌, List, Option, Some, None, IsTrue, refl, sym, subst, ◌∙◌}
use Rattle.seq_objects.specs.declared.int_set.IntSetOperation.{IntSetOperation}
use Rattle.seq_objects.specs.Replies.{reply_bad}
use Rattle.seq_objects.specs.IntSetSteps.{set_operation, set_after}
use Rattle.seq_objects.proofs.Replying.{RepliesBy, replies_one, set_replies}
use Rattle.seq_objects.proofs.int_set.IntSetSeqObject.may_reply.Goals as goal

pub returns-in-Some : goal.returns-in-Some
returns-in-Some c =
    let asked : set_operation c.args.op ≡ Some c.in-Some.field-0 = sym c.from_word.ensures ∙ c.in-Some.is in
    let step : Option IntSetOperation → List ℕ → List ℕ × ℕ = λ o list. set_after list o in
    subst (λ o. IsTrue c.is_yes_or_no.result ↔ RepliesBy (step o) c.args.reply) (sym asked)
    (set_replies c.in-Some.field-0 c.args.reply c.is_yes_or_no.result c.is_yes_or_no.ensures)

pub returns-in-None : goal.returns-in-None
returns-in-None c =
    let asked : set_operation c.args.op ≡ None = sym c.from_word.ensures ∙ c.in-None.is in
    let step : Option IntSetOperation → List ℕ → List ℕ × ℕ = λ o list. set_after list o in
    subst (λ o. IsTrue (c.args.reply == reply_bad) ↔ RepliesBy (step o) c.args.reply)
    (sym asked) (replies_one (step None) reply_bad c.args.reply (λ list. refl))
