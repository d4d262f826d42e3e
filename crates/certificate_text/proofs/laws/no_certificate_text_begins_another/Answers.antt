use Rattle.certificate_text.proofs.Readings.{no_prefix}
use Rattle.certificate_text.proofs.laws.no_certificate_text_begins_another.Goals as goal

pub returns : goal.returns
returns c = no_prefix
