use Rattle.book_text.proofs.Readings as readings
use Rattle.book_text.proofs.laws.no_fault_of_a_text.Goals as goal

pub returns : goal.returns
returns c = readings.no_first_fault
