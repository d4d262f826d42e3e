-- What an error line of a lawful report says: no order of its book, and no run over linearizable
-- object calls.
use Rattle.std.proofs.Common.{subst}
use Rattle.book_base.specs.Order.{HasLegalOrder}
use Rattle.legal_orders.proofs.BookAtLaws.{is_the_only_one}
use Rattle.report_lines.specs.Lines.{book_of_lines}
use Rattle.reports.proofs.FirstErrors.{some_error_is_first}
use Rattle.reports.specs.LawfulErrors.{WitnessesHaveNoOrder, NoRunLeavesAnError}

pub witnesses_have_no_order : WitnessesHaveNoOrder
witnesses_have_no_order spec s operations allotments lines book lawful witness legal =
    lawful.no_order witness.call witness.cut witness.error.error
    (subst (HasLegalOrder spec)
    (is_the_only_one (book_of_lines lines) witness.cut book lawful.valid witness.at) legal)

pub no_run_leaves_an_error : NoRunLeavesAnError
no_run_leaves_an_error spec s operations allotments lines lawful some t steps run same =
    let first = some_error_is_first lines some in
    lawful.no_run first.1.0 first.0 first.1.1.error t steps run same
