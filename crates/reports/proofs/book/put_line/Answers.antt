use Rattle.std.proofs.Common.{sym}
use Rattle.reports.proofs.book.put_line.Goals as goal

pub add_answer-requires-clause-may : goal.add_answer-requires-clause-may
add_answer-requires-clause-may c = c.requires.may.may c.in-Some.answer (sym c.in-Some.ensures)
