use Rattle.streams.proofs.Books.{same_verdict}
use Rattle.streams.proofs.laws.books_of_streams_have_the_same_verdict.Goals as goal

pub returns : goal.returns
returns c = same_verdict
