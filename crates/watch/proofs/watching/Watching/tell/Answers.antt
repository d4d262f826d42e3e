use Rattle.std.proofs.Common.{◌≡◌, ◌∙◌, ◌<◌, ◌++◌, ℕ, length, List, sym, ap, subst, append_assoc, refl}
use Rattle.stream_text.specs.Stream.{EventDue}
use Rattle.watch.specs.Output.{OutputLine}
use Rattle.watch.specs.Lines.{head_lines}
use Rattle.watch.specs.Timely.{IsDue, IsTimely, IsReported, IsPunctual, IsPunctualBut}
use Rattle.watch.proofs.Outputs.{tells_then, tells_closes}
use Rattle.watch.proofs.Punctual.{IsMoreOf, timely_more, punctual_all, tells_grown, tells_map, tells_reported}
use Rattle.watch.proofs.watching.Watching.tell.Goals as goal

pub returns-then-branch-clause-over : goal.returns-then-branch-clause-over
returns-then-branch-clause-over c same asked lines said output h =
    c.in_ok-say.ensures.over c.if-branch.true asked lines (EventDue said) said output h refl

pub returns-then-is_due-clause-goes_on : goal.returns-then-is_due-clause-goes_on
returns-then-is_due-clause-goes_on c over asked lines said output h =
    let P = λ (after : List OutputLine). c.args.object < length said.names
    → IsTimely asked said after c.args.object in
    tells_then asked c.args.self.now c.say.new.self c.report.new.self lines (EventDue said) said
    output (λ after. P after × IsMoreOf output after)
    (λ after. IsReported said after (length lines))
    (λ after. IsPunctualBut asked said output c.args.object → IsPunctual asked said after)
    (tells_grown asked c.args.self.now c.say.new.self lines (EventDue said) said output P
    (c.in_ok-say.ensures.goes_on c.if-branch.false asked lines (EventDue said) said output h refl))
    (λ after holds. tells_reported asked c.say.new.self c.report.new.self lines (EventDue said) said
    after (c.in_ok-report.ensures.goes_on over asked lines (EventDue said) said after holds refl))
    (λ after more (here, (xs, is)) reported but.
    punctual_all asked said output (after ++ more) c.args.object
    (xs ++ more, ap (λ (o : List OutputLine). o ++ more) is ∙ append_assoc output xs more) but
    (λ low. timely_more asked said after (after ++ more) c.args.object (more, refl) (here low))
    (λ due. subst (IsReported said (after ++ more)) h.even reported))

pub returns-then-is_due-clause-over : goal.returns-then-is_due-clause-over
returns-then-is_due-clause-over c over asked lines said output h =
    tells_closes asked c.args.self.now c.say.new.self c.report.new.self lines (EventDue said) said
    output (λ after. c.args.object < length said.names → IsTimely asked said after c.args.object)
    (c.in_ok-say.ensures.goes_on c.if-branch.false asked lines (EventDue said) said output h refl)
    (λ after _ holds. c.in_ok-report.ensures.over over asked lines (EventDue said) said after holds
    refl)

pub returns-clause-goes_on : goal.returns-clause-goes_on
returns-clause-goes_on c over asked lines said output h =
    tells_map asked c.args.self.now c.say.new.self lines (EventDue said) said output
    (λ after. c.args.object < length said.names → IsTimely asked said after c.args.object)
    (λ after. IsPunctualBut asked said output c.args.object → IsPunctual asked said after)
    (c.in_ok-say.ensures.goes_on c.if-branch.false asked lines (EventDue said) said output h refl)
    (λ more holds here but.
    punctual_all asked said output (output ++ more) c.args.object (more, refl) but here
    (λ due. absurd (c.is_due.ensures c.if-is_due.false
    (subst (λ s. IsDue s c.say.new.self.number) (sym holds.asked_is)
    (subst (IsDue asked) (sym (holds.number ∙ h.even)) due)))))
