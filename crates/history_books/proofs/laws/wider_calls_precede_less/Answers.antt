use Rattle.history_books.proofs.Widening.{wider_calls_precede_less}
use Rattle.history_books.proofs.laws.wider_calls_precede_less.Goals as goal

pub returns : goal.returns
returns c = wider_calls_precede_less
