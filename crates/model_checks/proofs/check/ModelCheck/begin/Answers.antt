use Rattle.std.proofs.Common.{ℕ, refl, ap, ◌∙◌}
use Rattle.book_base.specs.Book.{with_call}
use Rattle.model_checks.proofs.Sound.{sound-begun}
use Rattle.model_checks.proofs.check.ModelCheck.begin.Goals as goal

pub returns-clause-sound : goal.returns-clause-sound
returns-clause-sound c = sound-begun c.args.self.now _ c.args.caller c.args.op c.requires.sound
    (c.may_begin.ensures.0 c.if-not-may_begin.false) c.ranges.op.fits
    (c.in-Ok.ensures.ok ∙ ap (λ (n : ℕ). with_call c.args.self.now.book c.args.caller n)
    c.operation_word.ensures) refl refl refl
