use Rattle.book_picture.proofs.ValueLemmas.{each_appears}
use Rattle.book_picture.proofs.laws.each_value_appears.Goals as goal

pub returns : goal.returns
returns c = each_appears
