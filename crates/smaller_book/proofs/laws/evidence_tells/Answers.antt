use Rattle.smaller_book.proofs.Evidence.{evidence_carries_over, evidence_tells}
use Rattle.smaller_book.proofs.laws.evidence_tells.Goals as goal

pub returns-clause-carries_over : goal.returns-clause-carries_over
returns-clause-carries_over c = evidence_carries_over

pub returns-clause-tells : goal.returns-clause-tells
returns-clause-tells c = evidence_tells
