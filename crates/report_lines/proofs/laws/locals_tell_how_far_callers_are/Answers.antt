use Rattle.report_lines.proofs.Accounts.{nothing_grows, operations_are_calls, object_steps_are_of_the_last_call, replies_are_no_records, views_make_records, publications_count, seen_cuts_are_of_the_last_call}
use Rattle.report_lines.proofs.laws.locals_tell_how_far_callers_are.Goals as goal

pub returns-clause-nothing : goal.returns-clause-nothing
returns-clause-nothing c = nothing_grows

pub returns-clause-operations : goal.returns-clause-operations
returns-clause-operations c = operations_are_calls

pub returns-clause-steps : goal.returns-clause-steps
returns-clause-steps c = object_steps_are_of_the_last_call

pub returns-clause-replies : goal.returns-clause-replies
returns-clause-replies c = replies_are_no_records

pub returns-clause-views : goal.returns-clause-views
returns-clause-views c = views_make_records

pub returns-clause-publications : goal.returns-clause-publications
returns-clause-publications c = publications_count

pub returns-clause-seen : goal.returns-clause-seen
returns-clause-seen c = seen_cuts_are_of_the_last_call
