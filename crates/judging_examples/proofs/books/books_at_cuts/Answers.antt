use Rattle.judging_examples.proofs.LegalBooks.{overtaken_is_valid, overtaken_at_all, overtaken_at_early}
use Rattle.judging_examples.proofs.books.books_at_cuts.Goals as goal

pub returns-clause-valid : goal.returns-clause-valid
returns-clause-valid c = overtaken_is_valid

pub returns-clause-all : goal.returns-clause-all
returns-clause-all c = overtaken_at_all

pub returns-clause-early : goal.returns-clause-early
returns-clause-early c = overtaken_at_early
