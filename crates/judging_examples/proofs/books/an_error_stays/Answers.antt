use Rattle.judging_examples.proofs.LegalBooks.{mistaken_first, mistaken_later}
use Rattle.judging_examples.proofs.books.an_error_stays.Goals as goal

pub returns-clause-first : goal.returns-clause-first
returns-clause-first c = mistaken_first

pub returns-clause-later : goal.returns-clause-later
returns-clause-later c = mistaken_later
