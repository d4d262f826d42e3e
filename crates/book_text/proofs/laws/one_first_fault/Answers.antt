use Rattle.book_text.proofs.Readings as readings
use Rattle.book_text.proofs.laws.one_first_fault.Goals as goal

pub returns : goal.returns
returns c = readings.one_first_fault
