use Rattle.std.proofs.Common.{◌≡◌, ◌∙◌, ap, subst, ℕ, ◌*◌, ◌≤◌, length, slice_index}
use Rattle.row_table.specs.Callers.{who_of}
use Rattle.report_lines.specs.Allotments.{operations_at}
use Rattle.run_report.specs.Starts.{run_allotments}
use Rattle.run_report.proofs.Starts.{fresh_start}
use Rattle.run_report.proofs.start.begin.Goals as goal

pub returns : goal.returns
returns g c =
    let plan = c.args.script.now in
    let who = who_of c.args.caller in
    let given = c.allotment_of-allotment in
    let operations : c.operations-operations.result.now ≡ operations_at plan.operations who =
    c.operations-operations.ensures
    ∙ ap (λ (i : ℕ). operations_at plan.operations i) c.who-who.ensures in
    let allotment : given.result ≡ slice_index (run_allotments plan) who = given.ensures.allotment
    ∙ ap (λ (i : ℕ). slice_index (run_allotments plan) i) c.who-who.ensures in
    let within : given.result ≤ 5 * length (operations_at plan.operations who) =
    subst (λ (i : ℕ). given.result ≤ 5 * length (operations_at plan.operations i)) c.who-who.ensures
    given.ensures.within in
    fresh_start _ _ _ _ _ _ plan _ c.args.caller c.args.pass _ _ tt given.result c.requires.rows
    c.requires.caller c.requires.fresh c.requires.pass
    c.who-who.ensures operations c.requires.room c.another-ending.ensures allotment within
