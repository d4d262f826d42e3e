use Rattle.residue_laws.proofs.Simulating.{retained_ones_decide, retained_ones_are_sound, retained_ones_serve}
use Rattle.residue_laws.proofs.laws.descriptions_decide.Goals as goal

pub returns-clause-decide : goal.returns-clause-decide
returns-clause-decide g c = let d = g.D.Descriptions in
    retained_ones_decide d.spec d.retained d.steps d.means d.serves d.faithful

pub returns-clause-sound : goal.returns-clause-sound
returns-clause-sound g c = let d = g.D.Descriptions in
    retained_ones_are_sound d.spec d.retained d.steps d.means d.serves d.faithful

pub returns-clause-serve : goal.returns-clause-serve
returns-clause-serve g c = let d = g.D.Descriptions in
    retained_ones_serve d.spec d.retained d.steps d.means d.serves d.faithful
