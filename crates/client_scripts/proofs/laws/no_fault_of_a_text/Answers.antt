use Rattle.client_scripts.proofs.Readings as readings
use Rattle.client_scripts.proofs.laws.no_fault_of_a_text.Goals as goal

pub returns : goal.returns
returns c = readings.no_first_fault
