use Rattle.world_laws.proofs.Locals.{given_cuts_are_low, given_cuts_are_published}
use Rattle.world_laws.proofs.local_laws.given_cuts_are_low.Goals as goal

pub returns-clause-low : goal.returns-clause-low
returns-clause-low c = given_cuts_are_low

pub returns-clause-published : goal.returns-clause-published
returns-clause-published c = given_cuts_are_published
