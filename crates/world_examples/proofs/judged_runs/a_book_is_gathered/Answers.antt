use Rattle.world_examples.proofs.GatheredBook.{gathered, gathering_published}
use Rattle.world_examples.proofs.judged_runs.a_book_is_gathered.Goals as goal

pub returns-clause-gathered : goal.returns-clause-gathered
returns-clause-gathered c = gathered

pub returns-clause-published : goal.returns-clause-published
returns-clause-published c = gathering_published
