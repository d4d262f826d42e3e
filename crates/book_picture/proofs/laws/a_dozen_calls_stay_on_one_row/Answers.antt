use Rattle.book_picture.proofs.RowLemmas.{one_row}
use Rattle.book_picture.proofs.laws.a_dozen_calls_stay_on_one_row.Goals as goal

pub returns : goal.returns
returns c = one_row
