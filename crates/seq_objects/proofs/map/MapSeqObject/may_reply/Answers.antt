use Rattle.std.proofs.Common.{◌≡◌, ℕ, ◌==◌, ◌↔◌, List, Option, Some, None, IsTrue, refl, sym, subst, ◌∙◌}
use Rattle.seq_objects.specs.declared.map.MapOperation.{MapOperation}
use Rattle.seq_objects.specs.Replies.{reply_bad}
use Rattle.seq_objects.specs.MapSteps.{map_operation, map_after}
use Rattle.seq_objects.proofs.Replying.{RepliesBy, replies_one, map_replies}
use Rattle.seq_objects.proofs.map.MapSeqObject.may_reply.Goals as goal

pub returns-in-Some : goal.returns-in-Some
returns-in-Some c =
    let asked : map_operation c.args.op ≡ Some c.in-Some.field-0 = sym c.from_word.ensures ∙ c.in-Some.is in
    let step : Option MapOperation → List ℕ → List ℕ × ℕ = λ o list. map_after list o in
    subst (λ o. IsTrue c.is_value_or_none.result ↔ RepliesBy (step o) c.args.reply) (sym asked)
    (map_replies c.in-Some.field-0 c.args.reply c.is_value_or_none.result c.is_value_or_none.ensures)

pub returns-in-None : goal.returns-in-None
returns-in-None c =
    let asked : map_operation c.args.op ≡ None = sym c.from_word.ensures ∙ c.in-None.is in
    let step : Option MapOperation → List ℕ → List ℕ × ℕ = λ o list. map_after list o in
    subst (λ o. IsTrue (c.args.reply == reply_bad) ↔ RepliesBy (step o) c.args.reply)
    (sym asked) (replies_one (step None) reply_bad c.args.reply (λ list. refl))
