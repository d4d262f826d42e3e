use Rattle.std.proofs.Common.{◌≡◌, ℕ, ◌==◌, ◌↔◌, List, [], ◌∷◌, ◌+◌, ◌%◌, ◌^◌, Option, Some, None, IsTrue, refl, sym, ap, subst, ◌∙◌}
use Rattle.seq_objects.specs.declared.counter.CounterOperation.{CounterOperation}
use Rattle.seq_objects.specs.declared.counter.CounterOperation.TheVariants.{Increment}
use Rattle.seq_objects.specs.Items.{first_or_zero}
use Rattle.seq_objects.specs.Replies.{reply_bad}
use Rattle.seq_objects.specs.CounterSteps.{counter_operation, counter_after}
use Rattle.seq_objects.proofs.Replying.{RepliesBy, replies_one, first_value_replies}
use Rattle.seq_objects.proofs.counter.CounterSeqObject.may_reply.Goals as goal

only_increment : (o : CounterOperation) → o ≡ Increment
only_increment Increment = refl

pub returns-in-Some-Increment : goal.returns-in-Some-Increment
returns-in-Some-Increment c =
    let asked : counter_operation c.args.op ≡ Some Increment = sym c.from_word.ensures
    ∙ (c.in-Some-Increment.is ∙ ap Some (only_increment c.in-Some-Increment.field-0)) in
    let step : Option CounterOperation → List ℕ → List ℕ × ℕ = λ o list. counter_after list o in
    subst (λ o. IsTrue c.is_value.result ↔ RepliesBy (step o) c.args.reply) (sym asked)
    (first_value_replies (λ list. (first_or_zero list + 1) % 2 ^ 32 ∷ []) c.args.reply
    c.is_value.result c.is_value.ensures)

pub returns-in-None : goal.returns-in-None
returns-in-None c =
    let asked : counter_operation c.args.op ≡ None = sym c.from_word.ensures ∙ c.in-None.is in
    let step : Option CounterOperation → List ℕ → List ℕ × ℕ = λ o list. counter_after list o in
    subst (λ o. IsTrue (c.args.reply == reply_bad) ↔ RepliesBy (step o) c.args.reply)
    (sym asked) (replies_one (step None) reply_bad c.args.reply (λ list. refl))
