use Rattle.streams.proofs.Making.{valid_streams_have_a_book}
use Rattle.streams.proofs.laws.valid_streams_have_a_book.Goals as goal

pub returns : goal.returns
returns c = valid_streams_have_a_book
