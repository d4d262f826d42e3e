use Rattle.world_laws.proofs.Validity.{books_are_valid}
use Rattle.world_laws.proofs.books.books_are_valid.Goals as goal

pub returns : goal.returns
returns c = books_are_valid
