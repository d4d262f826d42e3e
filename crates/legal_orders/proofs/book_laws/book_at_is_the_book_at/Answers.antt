use Rattle.legal_orders.proofs.BookAtLaws.{is_the_book_at, is_the_only_one, stays_valid}
use Rattle.legal_orders.proofs.book_laws.book_at_is_the_book_at.Goals as goal

pub returns-clause-book : goal.returns-clause-book
returns-clause-book c = is_the_book_at

pub returns-clause-only : goal.returns-clause-only
returns-clause-only c = is_the_only_one

pub returns-clause-valid : goal.returns-clause-valid
returns-clause-valid c = stays_valid
