use Rattle.locality.proofs.Parts.{parts_are_books}
use Rattle.locality.proofs.laws.parts_are_books.Goals as goal

pub returns : goal.returns
returns c = parts_are_books
