use Rattle.report_lines.proofs.Workers.{workers_go_through, workers_halt}
use Rattle.report_lines.proofs.report_laws.workers_go_through_or_halt.Goals as goal

pub returns-clause-through : goal.returns-clause-through
returns-clause-through c = workers_go_through

pub returns-clause-halted : goal.returns-clause-halted
returns-clause-halted c = workers_halt
