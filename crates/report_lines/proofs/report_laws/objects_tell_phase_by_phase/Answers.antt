use Rattle.report_lines.proofs.Telling.{told_as_announced, told_as_asked, told_as_viewed, told_as_published, told_as_seen}
use Rattle.report_lines.proofs.report_laws.objects_tell_phase_by_phase.Goals as goal

pub returns-clause-announcing : goal.returns-clause-announcing
returns-clause-announcing c = told_as_announced

pub returns-clause-asking : goal.returns-clause-asking
returns-clause-asking c = told_as_asked

pub returns-clause-viewing : goal.returns-clause-viewing
returns-clause-viewing c = told_as_viewed

pub returns-clause-publishing : goal.returns-clause-publishing
returns-clause-publishing c = told_as_published

pub returns-clause-seeing : goal.returns-clause-seeing
returns-clause-seeing c = told_as_seen
