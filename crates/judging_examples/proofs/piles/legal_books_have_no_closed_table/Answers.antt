use Rattle.judging_examples.proofs.ClosedTables.{pile_gives_last_first, has_legal_order, none_is_closed, start_left_out}
use Rattle.judging_examples.proofs.piles.legal_books_have_no_closed_table.Goals as goal

pub returns-clause-pile : goal.returns-clause-pile
returns-clause-pile c = pile_gives_last_first

pub returns-clause-legal : goal.returns-clause-legal
returns-clause-legal c = has_legal_order

pub returns-clause-none : goal.returns-clause-none
returns-clause-none c = none_is_closed

pub returns-clause-start : goal.returns-clause-start
returns-clause-start c = start_left_out
