use Rattle.judging_examples.proofs.BagBooks.{bag-is_container, has-legal_order, legal-kept}
use Rattle.judging_examples.proofs.bags.legal_books_are_not_refuted.Goals as goal

pub returns-clause-bag : goal.returns-clause-bag
returns-clause-bag c = bag-is_container

pub returns-clause-legal : goal.returns-clause-legal
returns-clause-legal c = has-legal_order

pub returns-clause-kept : goal.returns-clause-kept
returns-clause-kept c = legal-kept
