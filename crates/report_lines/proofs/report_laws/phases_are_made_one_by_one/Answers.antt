use Rattle.report_lines.proofs.Stepping.{viewing_is_a_phase, seeing_is_a_phase}
use Rattle.report_lines.proofs.report_laws.phases_are_made_one_by_one.Goals as goal

pub returns-clause-viewing : goal.returns-clause-viewing
returns-clause-viewing c = viewing_is_a_phase

pub returns-clause-seeing : goal.returns-clause-seeing
returns-clause-seeing c = seeing_is_a_phase
