use Rattle.book_picture.proofs.ValueLemmas.{by_table}
use Rattle.book_picture.proofs.laws.arguments_are_of_the_table.Goals as goal

pub returns : goal.returns
returns c = by_table
