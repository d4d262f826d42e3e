use Rattle.std.proofs.Common.{◌∙◌, sym, ap}
use Rattle.seq_objects.specs.Objects.{kind_next}
use Rattle.kind_search.specs.declared.searched_kind.SearchedKind.{SearchedKind}
use Rattle.core_runs.proofs.LoggedReports.{reports_of_logs_are_logged, reports_of_tallies_are_formed, reports_of_cells_are_formed}
use Rattle.named_runs.proofs.InsideRuns.{inside_ends}
use Rattle.named_runs.proofs.inside_run.run_inside.Goals as goal

pub returns-in-Ok-clause-ends : goal.returns-in-Ok-clause-ends
returns-in-Ok-clause-ends g c =
    inside_ends _ _ c.in-Lawful.is c.args.script.now _
    (ap (λ (s : SearchedKind). s.kind) c.in-Ok.ensures.object ∙ c.kind-kind.ensures)
    _ _ _ _ _ _ _ _ (λ locals findings is. reports_of_logs_are_logged _ _ _ _ _ _ _ _ is)
    c.core_fresh.ensures.ends

pub returns-in-Ok-open-clause-ends : goal.returns-in-Ok-open-clause-ends
unfolding kind_next
returns-in-Ok-open-clause-ends g c =
    inside_ends _ _ c.in-Tally.is c.args.script.now _ (sym c.in-Counter.is ∙ c.kind-kind.ensures)
    _ _ _ _ _ _ _ _ (λ locals findings is. reports_of_tallies_are_formed _ _ _ _ _ _ _ is)
    c.core_fresh-in-Counter.ensures.ends

pub returns-in-Ok-open-2-clause-ends : goal.returns-in-Ok-open-2-clause-ends
unfolding kind_next
returns-in-Ok-open-2-clause-ends g c =
    inside_ends _ _ c.in-Cell.is c.args.script.now _ (sym c.in-Register.is ∙ c.kind-kind.ensures)
    _ _ _ _ _ _ _ _ (λ locals findings is. reports_of_cells_are_formed _ _ _ _ _ _ _ is)
    c.core_fresh-in-Register.ensures.ends
