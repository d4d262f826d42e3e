use Rattle.late_residue.proofs.Deciding.{where_nothing_is_known, known_replies_decide}
use Rattle.late_residue.proofs.laws.known_replies_decide.Goals as goal

pub returns-clause-nothing : goal.returns-clause-nothing
returns-clause-nothing c = where_nothing_is_known

pub returns-clause-decide : goal.returns-clause-decide
returns-clause-decide c = known_replies_decide
