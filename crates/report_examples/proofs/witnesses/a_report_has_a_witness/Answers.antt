use Rattle.std.proofs.Common.{◌∷◌, []}
use Rattle.report_lines.specs.Lines.{book_of_lines}
use Rattle.reports.specs.Cases.{worked_lines}
use Rattle.report_examples.specs.Lines.{call}
use Rattle.legal_orders.proofs.BookAt.{book_at_is_the_book_at}
use Rattle.report_examples.proofs.WorkedReport.{worked_is_valid, worked_is_report, worked_error_is_first}
use Rattle.report_examples.proofs.witnesses.a_report_has_a_witness.Goals as goal

pub returns-clause-report : goal.returns-clause-report
returns-clause-report c = worked_is_report

pub returns-clause-first : goal.returns-clause-first
returns-clause-first c = worked_error_is_first

pub returns-clause-witness : goal.returns-clause-witness
returns-clause-witness c = record {
  call = call 1 0;
  cut = 1 ∷ 1 ∷ 0 ∷ [];
  error = worked_error_is_first;
  at = book_at_is_the_book_at (book_of_lines worked_lines) (1 ∷ 1 ∷ 0 ∷ []) worked_is_valid;
}
