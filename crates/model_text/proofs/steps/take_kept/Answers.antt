use Rattle.std.proofs.Common.{◌≡◌, ◌∙◌, ℕ, true, sym, subst}
use Rattle.std.proofs.lemmas.Bool.{both_ways}
use Rattle.seq_objects.proofs.ReplyTexts.{reply_word-once}
use Rattle.text_fields.proofs.NumberTexts.{same_first}
use Rattle.model_text.specs.Told.{keeps}
use Rattle.model_text.proofs.steps.take_kept.Goals as goal

pub returns-else-keeps-clause-none : goal.returns-else-keeps-clause-none
returns-else-keeps-clause-none c = λ reply small kept e.
    let found = c.in_ok-reply.ensures.found in
    let same : c.in_ok-reply.reply ≡ reply = reply_word-once c.in_ok-reply.reply reply found.0
    small (same_first _ _ _ _ (sym found.1 ∙ e)).0 in
    both_ways (keeps c.args.told.now c.args.subject c.in_ok-reply.reply)
    (sym c.keeps.ensures ∙ c.if-keeps.false)
    (subst (λ (r : ℕ). keeps c.args.told.now c.args.subject r ≡ true) (sym same) kept)
