use Rattle.report_lines.proofs.Accounts.{announcements_are_calls, object_steps_count, publishes_count}
use Rattle.report_lines.proofs.laws.events_take_callers_on.Goals as goal

pub returns-clause-announcements : goal.returns-clause-announcements
returns-clause-announcements c = announcements_are_calls

pub returns-clause-steps : goal.returns-clause-steps
returns-clause-steps c = object_steps_count

pub returns-clause-publications : goal.returns-clause-publications
returns-clause-publications c = publishes_count
