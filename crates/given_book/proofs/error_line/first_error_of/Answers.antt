use Rattle.std.proofs.Common.{arith}
use Rattle.given_book.proofs.FirstErrors.{none_more, none_of_all, first_of_all}
use Rattle.given_book.proofs.error_line.first_error_of.Goals as goal

pub returns-in-Some-clause-found : goal.returns-in-Some-clause-found
returns-in-Some-clause-found c =
    let found = c.in-Some.ensures.found in (
      found.0,
      first_of_all c.args.report.now.lines c.loop-caller.caller c.in-Some.number found.0
          c.loop-caller.invariant found.1 c.in-Some.ensures.first,
    )

pub loop-caller-preserved : goal.loop-caller-preserved
loop-caller-preserved c = none_more c.args.report.now.lines c.loop-caller.caller
    c.loop-caller.invariant c.in-None.ensures.none

pub returns-clause-none : goal.returns-clause-none
returns-clause-none c = none_of_all c.args.report.now.lines c.loop-caller.caller
    (omega (arith, c.callers-caller-end.ensures.count, c.loop-caller-test.false))
    c.loop-caller.invariant
