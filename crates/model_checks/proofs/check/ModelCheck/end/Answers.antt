use Rattle.std.proofs.Common.{ℕ, List, refl, ap, ◌∙◌}
use Rattle.book_base.specs.Book.{with_answer}
use Rattle.seq_objects.specs.Replies.{reply_value}
use Rattle.model_checks.proofs.Sound.{sound-ended}
use Rattle.model_checks.proofs.check.ModelCheck.end.Goals as goal

pub returns-clause-sound : goal.returns-clause-sound
returns-clause-sound c = sound-ended c.args.self.now _ c.args.caller c.args.reply c.requires.sound
    (c.may_end.ensures.may.0 c.if-not-may_end.false)
    (c.in_ok-put_answer.ensures.ok
    ∙ ap (λ (n : ℕ). with_answer c.args.self.now.book c.args.caller
    (record { reply = n; view = c.announced-view.result }))
    (c.wrapping_value_reply.ensures ∙ ap reply_value c.from.ensures)
    ∙ ap (λ (v : List ℕ). with_answer c.args.self.now.book c.args.caller
    (record { reply = reply_value c.args.reply; view = v })) c.announced-view.ensures)
    refl refl refl
