use Rattle.streams.proofs.Books.{valid, one_pending}
use Rattle.streams.proofs.laws.books_of_streams_are_valid.Goals as goal

pub returns-clause-valid : goal.returns-clause-valid
returns-clause-valid c = valid

pub returns-clause-pending : goal.returns-clause-pending
returns-clause-pending c = one_pending
