use Rattle.queue_pairs.proofs.Moments.{precedes_by_moments, moments_keep_precedence}
use Rattle.queue_pairs.proofs.laws.moments_keep_precedence.Goals as goal

pub returns-clause-precedes : goal.returns-clause-precedes
returns-clause-precedes c = precedes_by_moments

pub returns-clause-order : goal.returns-clause-order
returns-clause-order c = moments_keep_precedence
