use Rattle.pool_residue.proofs.Lawful.{takes_are_sound, optional_calls_are_sound}
use Rattle.pool_residue.proofs.laws.steps_are_sound.Goals as goal

pub returns-clause-takes : goal.returns-clause-takes
returns-clause-takes c = takes_are_sound

pub returns-clause-optional : goal.returns-clause-optional
returns-clause-optional c = optional_calls_are_sound
