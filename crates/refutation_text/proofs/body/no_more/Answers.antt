use Rattle.std.proofs.Common.{◌≡◌, true, refl}
use Rattle.text_fields.proofs.Sharp.{stops_rest}
use Rattle.refutation_text.specs.RefutationRules.{BodyRead, InBody, refutation_rules}
use Rattle.refutation_text.proofs.body.no_more.Goals as goal

pub returns-else-at_end-clause-refused : goal.returns-else-at_end-clause-refused
returns-else-at_end-clause-refused c = λ kind book steps ending.
    rw c.number.ensures
    (stops_rest refutation_rules (InBody kind book (BodyRead steps ending)) c.args.lines.now refl
    (λ e. let is : c.at_end.result ≡ true = c.at_end.ensures.1 e in
    absurd (cc (is, c.if-at_end.false))))
