use Rattle.client_scripts.proofs.Readings as readings
use Rattle.client_scripts.proofs.laws.one_first_fault.Goals as goal

pub returns : goal.returns
returns c = readings.one_first_fault
