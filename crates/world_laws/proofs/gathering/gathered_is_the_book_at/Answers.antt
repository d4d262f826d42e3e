use Rattle.world_laws.proofs.Gathered.{gathered_is_the_book_at, gathered_stays}
use Rattle.world_laws.proofs.gathering.gathered_is_the_book_at.Goals as goal

pub returns-clause-book : goal.returns-clause-book
returns-clause-book c = gathered_is_the_book_at

pub returns-clause-stays : goal.returns-clause-stays
returns-clause-stays c = gathered_stays
