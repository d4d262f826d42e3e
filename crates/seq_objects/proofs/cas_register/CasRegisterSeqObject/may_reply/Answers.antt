use Rattle.std.proofs.Common.{◌≡◌, ℕ, ◌==◌, ◌↔◌, List, Option, Some, None, IsTrue, refl, sym, ap, subst, ◌∙◌}
use Rattle.seq_objects.specs.declared.cas_register.CasRegisterOperation.{CasRegisterOperation}
use Rattle.seq_objects.specs.declared.cas_register.CasRegisterOperation.TheVariants.{Write, Read, CompareAndSet}
use Rattle.seq_objects.specs.Replies.{reply_done, reply_bad}
use Rattle.seq_objects.specs.CasRegisterSteps.{cas_register_operation, cas_register_after}
use Rattle.seq_objects.proofs.ReadOnly.{expected_is_small}
use Rattle.seq_objects.proofs.Replying.{RepliesBy, replies_one, first_value_replies, compared_and_set_replies}
use Rattle.seq_objects.proofs.cas_register.CasRegisterSeqObject.may_reply.Goals as goal

pub returns-in-Some-Write : goal.returns-in-Some-Write
returns-in-Some-Write c =
    let asked : cas_register_operation c.args.op ≡ Some (Write c.in-Some-Write.field-0-0) =
    sym c.from_word.ensures ∙ (c.in-Some-Write.is ∙ ap Some c.in-Some-Write.field-0-is) in
    let step : Option CasRegisterOperation → List ℕ → List ℕ × ℕ = λ o list. cas_register_after list o in
    subst (λ o. IsTrue (c.args.reply == reply_done) ↔ RepliesBy (step o) c.args.reply)
    (sym asked)
    (replies_one (step (Some (Write c.in-Some-Write.field-0-0))) reply_done c.args.reply (λ list. refl))

pub returns-in-Some-Read : goal.returns-in-Some-Read
returns-in-Some-Read c =
    let asked : cas_register_operation c.args.op ≡ Some Read =
    sym c.from_word.ensures ∙ (c.in-Some-Read.is ∙ ap Some c.in-Some-Read.field-0-is) in
    let step : Option CasRegisterOperation → List ℕ → List ℕ × ℕ = λ o list. cas_register_after list o in
    subst (λ o. IsTrue c.is_value.result ↔ RepliesBy (step o) c.args.reply) (sym asked)
    (first_value_replies (λ list. list) c.args.reply c.is_value.result c.is_value.ensures)

pub returns-in-Some-CompareAndSet : goal.returns-in-Some-CompareAndSet
returns-in-Some-CompareAndSet c =
    let asked : cas_register_operation c.args.op
    ≡ Some (CompareAndSet c.in-Some-CompareAndSet.field-0-0 c.in-Some-CompareAndSet.field-0-1) =
    sym c.from_word.ensures
    ∙ (c.in-Some-CompareAndSet.is ∙ ap Some c.in-Some-CompareAndSet.field-0-is) in
    let step : Option CasRegisterOperation → List ℕ → List ℕ × ℕ =
    λ o list. cas_register_after list o in
    subst (λ o. IsTrue c.is_yes_or_no.result ↔ RepliesBy (step o) c.args.reply) (sym asked)
    (compared_and_set_replies c.in-Some-CompareAndSet.field-0-0 c.in-Some-CompareAndSet.field-0-1
    c.args.reply c.is_yes_or_no.result (expected_is_small c.args.op
    c.in-Some-CompareAndSet.field-0-0 c.in-Some-CompareAndSet.field-0-1 asked)
    c.is_yes_or_no.ensures)

pub returns-in-None : goal.returns-in-None
returns-in-None c =
    let asked : cas_register_operation c.args.op ≡ None = sym c.from_word.ensures ∙ c.in-None.is in
    let step : Option CasRegisterOperation → List ℕ → List ℕ × ℕ = λ o list. cas_register_after list o in
    subst (λ o. IsTrue (c.args.reply == reply_bad) ↔ RepliesBy (step o) c.args.reply)
    (sym asked) (replies_one (step None) reply_bad c.args.reply (λ list. refl))
