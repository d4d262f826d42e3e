use Rattle.std.proofs.Common.{◌≡◌, ℕ, ◌==◌, ◌↔◌, List, Option, Some, None, IsTrue, refl, sym, ap, subst, ◌∙◌}
use Rattle.seq_objects.specs.declared.register.RegisterOperation.{RegisterOperation}
use Rattle.seq_objects.specs.declared.register.RegisterOperation.TheVariants.{Write, Read}
use Rattle.seq_objects.specs.Replies.{reply_done, reply_bad}
use Rattle.seq_objects.specs.RegisterSteps.{register_operation, register_after}
use Rattle.seq_objects.proofs.Replying.{RepliesBy, replies_one, first_value_replies}
use Rattle.seq_objects.proofs.register.RegisterSeqObject.may_reply.Goals as goal

pub returns-in-Some-Write : goal.returns-in-Some-Write
returns-in-Some-Write c =
    let asked : register_operation c.args.op ≡ Some (Write c.in-Some-Write.field-0-0) =
    sym c.from_word.ensures ∙ (c.in-Some-Write.is ∙ ap Some c.in-Some-Write.field-0-is) in
    let step : Option RegisterOperation → List ℕ → List ℕ × ℕ = λ o list. register_after list o in
    subst (λ o. IsTrue (c.args.reply == reply_done) ↔ RepliesBy (step o) c.args.reply)
    (sym asked)
    (replies_one (step (Some (Write c.in-Some-Write.field-0-0))) reply_done c.args.reply (λ list. refl))

pub returns-in-Some-Read : goal.returns-in-Some-Read
returns-in-Some-Read c =
    let asked : register_operation c.args.op ≡ Some Read =
    sym c.from_word.ensures ∙ (c.in-Some-Read.is ∙ ap Some c.in-Some-Read.field-0-is) in
    let step : Option RegisterOperation → List ℕ → List ℕ × ℕ = λ o list. register_after list o in
    subst (λ o. IsTrue c.is_value.result ↔ RepliesBy (step o) c.args.reply) (sym asked)
    (first_value_replies (λ list. list) c.args.reply c.is_value.result c.is_value.ensures)

pub returns-in-None : goal.returns-in-None
returns-in-None c =
    let asked : register_operation c.args.op ≡ None = sym c.from_word.ensures ∙ c.in-None.is in
    let step : Option RegisterOperation → List ℕ → List ℕ × ℕ = λ o list. register_after list o in
    subst (λ o. IsTrue (c.args.reply == reply_bad) ↔ RepliesBy (step o) c.args.reply)
    (sym asked) (replies_one (step None) reply_bad c.args.reply (λ list. refl))
