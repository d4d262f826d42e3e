use Rattle.std.proofs.Common.{◌≡◌, ◌∙◌, true, is_some, below_more, sym, arith}
use Rattle.list_laws.proofs.Options.{some_from_is_some}
use Rattle.report_lines.specs.Lines.{error_in}
use Rattle.given_book.proofs.FirstErrors.{error_by_line, no_error, none_of_caller}
use Rattle.given_book.proofs.error_line.first_error_in.Goals as goal

pub returns-then-is_error-clause-found : goal.returns-then-is_error-clause-found
returns-then-is_error-clause-found c =
    let line = c.line.result.now in
    let yes : is_some (error_in line.end) ≡ true = sym c.is_error.ensures ∙ c.if-is_error.true in
    let cut = some_from_is_some (error_in line.end) yes in (
      cut.0,
      error_by_line c.args.report.now.lines
          (record { caller = c.args.caller; number = c.loop-number.number }) line c.line.ensures
          ∙ cut.1,
    )

pub returns-then-is_error-clause-first : goal.returns-then-is_error-clause-first
returns-then-is_error-clause-first c = c.loop-number.invariant

pub loop-number-preserved : goal.loop-number-preserved
loop-number-preserved c =
    below_more _ _ c.loop-number.invariant
    (no_error c.args.report.now.lines
    (record { caller = c.args.caller; number = c.loop-number.number }) c.line.result.now
    c.line.ensures (sym c.is_error.ensures ∙ c.if-is_error.false))

pub returns-clause-none : goal.returns-clause-none
returns-clause-none c =
    none_of_caller c.args.report.now.lines c.args.caller (λ k inside. c.loop-number.invariant k
    (omega (arith, inside, c.lines-number-end.ensures, c.loop-number-test.false)))
