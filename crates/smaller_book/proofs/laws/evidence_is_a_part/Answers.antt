use Rattle.smaller_book.proofs.Evidence.{evidence_is_a_part, evidence_keeps_the_rest}
use Rattle.smaller_book.proofs.laws.evidence_is_a_part.Goals as goal

pub returns-clause-part : goal.returns-clause-part
returns-clause-part c = evidence_is_a_part

pub returns-clause-rest : goal.returns-clause-rest
returns-clause-rest c = evidence_keeps_the_rest
