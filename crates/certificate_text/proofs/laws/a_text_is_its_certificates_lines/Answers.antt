use Rattle.certificate_text.proofs.ReadTexts.{a_text_is_its_lines}
use Rattle.certificate_text.proofs.laws.a_text_is_its_certificates_lines.Goals as goal

pub returns : goal.returns
returns c = a_text_is_its_lines
