use Rattle.certificate_text.proofs.ReadTexts.{one_text}
use Rattle.certificate_text.proofs.laws.one_text_per_certificate.Goals as goal

pub returns : goal.returns
returns c = one_text
