use Rattle.client_scripts.proofs.Readings.{no_prefix}
use Rattle.client_scripts.proofs.laws.no_script_text_begins_another.Goals as goal

pub returns : goal.returns
returns c = no_prefix
