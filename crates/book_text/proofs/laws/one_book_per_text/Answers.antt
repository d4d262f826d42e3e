use Rattle.book_text.proofs.Readings as readings
use Rattle.book_text.proofs.laws.one_book_per_text.Goals as goal

pub returns : goal.returns
returns c = readings.one_book
