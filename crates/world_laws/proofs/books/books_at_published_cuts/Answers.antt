use Rattle.world_laws.proofs.Validity.{books_at_published_cuts, published_cuts_are_within}
use Rattle.world_laws.proofs.books.books_at_published_cuts.Goals as goal

pub returns-clause-within : goal.returns-clause-within
returns-clause-within c = published_cuts_are_within

pub returns-clause-books : goal.returns-clause-books
returns-clause-books c = books_at_published_cuts
