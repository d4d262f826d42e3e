use Rattle.reports.proofs.LawfulErrors.{witnesses_have_no_order as law}
use Rattle.reports.proofs.lawful_laws.witnesses_have_no_order.Goals as goal

pub returns : goal.returns
returns c = law
