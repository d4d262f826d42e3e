use Rattle.streams.proofs.Sketched.{books_are_those_of_their_streams}
use Rattle.streams.proofs.laws.books_are_those_of_their_streams.Goals as goal

pub returns : goal.returns
returns c = books_are_those_of_their_streams
