use Rattle.world_laws.proofs.RowBooks.{rows_are_a_valid_book}
use Rattle.world_laws.proofs.rows.rows_are_a_valid_book.Goals as goal

pub returns : goal.returns
returns c = rows_are_a_valid_book
