use Rattle.std.proofs.Common.{◌≡◌, true, refl}
use Rattle.text_fields.proofs.Sharp.{stops_rest}
use Rattle.certificate_text.specs.CertificateRules.{AllRead, certificate_rules}
use Rattle.certificate_text.proofs.reader.no_more.Goals as goal

pub returns-else-at_end-clause-refused : goal.returns-else-at_end-clause-refused
returns-else-at_end-clause-refused c = λ kind book order.
    rw c.number.ensures
    (stops_rest certificate_rules (AllRead kind book order) c.args.lines.now refl (λ e.
    let is : c.at_end.result ≡ true = c.at_end.ensures.1 e in absurd (cc (is, c.if-at_end.false))))
