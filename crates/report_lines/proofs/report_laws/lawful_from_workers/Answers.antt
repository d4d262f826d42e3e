use Rattle.report_lines.proofs.Workers.{workers_keep_to_their_allotments, workers_leave_the_lines, workers_are_lawful}
use Rattle.report_lines.proofs.report_laws.lawful_from_workers.Goals as goal

pub returns-clause-allotted : goal.returns-clause-allotted
returns-clause-allotted c = workers_keep_to_their_allotments

pub returns-clause-lines : goal.returns-clause-lines
returns-clause-lines c = workers_leave_the_lines

pub returns-clause-lawful : goal.returns-clause-lawful
returns-clause-lawful c = workers_are_lawful
