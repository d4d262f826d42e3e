use Rattle.judging_examples.proofs.LegalBooks.{overtaking_is_legal, overtaking_is_too_long, overtaking_ends_early, one_is_too_short}
use Rattle.judging_examples.proofs.books.an_order_ends_early.Goals as goal

pub returns-clause-whole : goal.returns-clause-whole
returns-clause-whole c = overtaking_is_legal

pub returns-clause-too_long : goal.returns-clause-too_long
returns-clause-too_long c = overtaking_is_too_long

pub returns-clause-prefix : goal.returns-clause-prefix
returns-clause-prefix c = overtaking_ends_early

pub returns-clause-too_short : goal.returns-clause-too_short
returns-clause-too_short c = one_is_too_short
