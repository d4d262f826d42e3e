use Rattle.queue_refutation.proofs.Succeeding.{pairs_serve_for_themselves, successors_suffice}
use Rattle.queue_refutation.proofs.laws.successors_suffice.Goals as goal

pub returns-clause-serves : goal.returns-clause-serves
returns-clause-serves c = pairs_serve_for_themselves

pub returns-clause-closed : goal.returns-clause-closed
returns-clause-closed c = successors_suffice
