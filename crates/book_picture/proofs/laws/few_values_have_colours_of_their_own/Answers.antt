use Rattle.book_picture.proofs.ValueLemmas.{told_apart}
use Rattle.book_picture.proofs.laws.few_values_have_colours_of_their_own.Goals as goal

pub returns : goal.returns
returns c = told_apart
