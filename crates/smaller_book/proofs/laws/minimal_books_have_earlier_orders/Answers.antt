use Rattle.smaller_book.proofs.Moments.{minimal_at_moments, closed_cuts_are_moments, few_calls_at_cuts, several_open_at_cuts}
use Rattle.smaller_book.proofs.laws.minimal_books_have_earlier_orders.Goals as goal

pub returns-clause-moments : goal.returns-clause-moments
returns-clause-moments c = minimal_at_moments

pub returns-clause-closed : goal.returns-clause-closed
returns-clause-closed c = closed_cuts_are_moments

pub returns-clause-few : goal.returns-clause-few
returns-clause-few c = few_calls_at_cuts

pub returns-clause-several : goal.returns-clause-several
returns-clause-several c = several_open_at_cuts
