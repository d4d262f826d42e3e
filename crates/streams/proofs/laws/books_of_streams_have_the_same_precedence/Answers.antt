use Rattle.streams.proofs.Books.{precedes-there, precedes-here}
use Rattle.streams.proofs.laws.books_of_streams_have_the_same_precedence.Goals as goal

pub returns : goal.returns
returns c stream book name of a b first second = (
  precedes-there stream book name of a b first second,
  precedes-here stream book name of a b first second,
)
