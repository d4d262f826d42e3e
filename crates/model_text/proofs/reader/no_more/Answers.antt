use Rattle.std.proofs.Common.{◌≡◌, true, refl}
use Rattle.text_fields.proofs.Sharp.{stops_rest}
use Rattle.model_text.specs.ModelRules.{AllRead, model_rules}
use Rattle.model_text.proofs.reader.no_more.Goals as goal

pub returns-else-at_end-clause-refused : goal.returns-else-at_end-clause-refused
returns-else-at_end-clause-refused c = λ pages told.
    rw c.number.ensures
    (stops_rest model_rules (AllRead pages told) c.args.lines.now refl (λ e.
    let is : c.at_end.result ≡ true = c.at_end.ensures.1 e in absurd (cc (is, c.if-at_end.false))))
