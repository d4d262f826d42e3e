use Rattle.world_laws.proofs.RowBooks.{books_at_cuts_are_in_the_rows, books_at_given_cuts_are_in_the_rows}
use Rattle.world_laws.proofs.rows.books_at_cuts_are_in_the_rows.Goals as goal

pub returns-clause-published : goal.returns-clause-published
returns-clause-published c = books_at_cuts_are_in_the_rows

pub returns-clause-given : goal.returns-clause-given
returns-clause-given c = books_at_given_cuts_are_in_the_rows
