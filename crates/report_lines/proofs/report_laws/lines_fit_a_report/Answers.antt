use Rattle.report_lines.proofs.Fitting.{seen_cuts_are_in_the_book, lines_before_the_last_are_delivered}
use Rattle.report_lines.proofs.report_laws.lines_fit_a_report.Goals as goal

pub returns-clause-seen : goal.returns-clause-seen
returns-clause-seen c = seen_cuts_are_in_the_book

pub returns-clause-delivered : goal.returns-clause-delivered
returns-clause-delivered c = lines_before_the_last_are_delivered
