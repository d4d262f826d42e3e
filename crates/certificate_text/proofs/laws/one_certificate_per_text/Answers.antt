use Rattle.certificate_text.proofs.Readings.{one_certificate}
use Rattle.certificate_text.proofs.laws.one_certificate_per_text.Goals as goal

pub returns : goal.returns
returns c = one_certificate
