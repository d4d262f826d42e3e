use Rattle.world_laws.proofs.NoFalseErrors.{linearizable_runs_have_legal_books, no_false_error}
use Rattle.world_laws.proofs.linearizing.no_false_error.Goals as goal

pub returns-clause-whole : goal.returns-clause-whole
returns-clause-whole c = linearizable_runs_have_legal_books

pub returns-clause-cuts : goal.returns-clause-cuts
returns-clause-cuts c = no_false_error
