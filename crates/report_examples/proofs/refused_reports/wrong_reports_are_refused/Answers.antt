use Rattle.std.proofs.Common.{◌≡◌, [], ◌∷◌, refl, arith}
use Rattle.reports.specs.Cases.{answer}
use Rattle.report_examples.specs.Lines.{call}
use Rattle.report_examples.proofs.refused_reports.wrong_reports_are_refused.Goals as goal

pub returns-clause-view_without_call : goal.returns-clause-view_without_call
returns-clause-view_without_call c s operations allotments h =
    let e : 0 ≡ 1 = h.valid.own (call 0 0) (answer 50 (0 ∷ 1 ∷ [])) refl in
    absurd (omega (arith, e))

pub returns-clause-narrow_cut : goal.returns-clause-narrow_cut
returns-clause-narrow_cut c s operations allotments h =
    let e : 1 ≡ 2 = h.seen.wide (call 0 0) (1 ∷ []) refl in absurd (omega (arith, e))

pub returns-clause-cut_without_call : goal.returns-clause-cut_without_call
returns-clause-cut_without_call c s operations allotments h =
    let e : 0 ≡ 1 = h.seen.own (call 1 0) (1 ∷ 0 ∷ []) refl in absurd (omega (arith, e))
