use Rattle.client_scripts.proofs.Readings as readings
use Rattle.client_scripts.proofs.laws.one_script_per_text.Goals as goal

pub returns : goal.returns
returns c = readings.one_script
