use Rattle.locality.proofs.Restricting.{legal_wholes_have_legal_parts}
use Rattle.locality.proofs.laws.legal_wholes_have_legal_parts.Goals as goal

pub returns : goal.returns
returns c = legal_wholes_have_legal_parts
