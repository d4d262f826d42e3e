use Rattle.legal_orders.proofs.BookAtLaws.{some_prefix_of_larger_is_legal, smaller_has_one, larger_has_none}
use Rattle.legal_orders.proofs.book_laws.error_is_final.Goals as goal

pub returns-clause-prefix : goal.returns-clause-prefix
returns-clause-prefix c = some_prefix_of_larger_is_legal

pub returns-clause-smaller : goal.returns-clause-smaller
returns-clause-smaller c = smaller_has_one

pub returns-clause-larger : goal.returns-clause-larger
returns-clause-larger c = larger_has_none
