use Rattle.std.proofs.Common.{◌≡◌, ◌+◌, [], refl, arith}
use Rattle.reports.specs.Cases.{failed, first}
use Rattle.report_examples.proofs.lines.lines_are_those_of_the_allotment.Goals as goal

pub returns-clause-after_an_error : goal.returns-clause-after_an_error
returns-clause-after_an_error c h = let one : 0 + 1 ≡ 2 =
    h.keeps.last 0 (failed 5 first []) refl refl in absurd (omega (arith, one))
