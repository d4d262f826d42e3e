use Rattle.std.proofs.Common.{◌∙◌, arith}
use Rattle.world_core.specs.Local.{fresh}
use Rattle.whole_runs.proofs.table.open_rows.Goals as goal

pub part-b-requires-clause-held : goal.part-b-requires-clause-held
part-b-requires-clause-held c = (
  fresh,
  (c.part-a.ensures.others 1 (λ e. absurd (omega (arith, e)))).0
      ∙ (c.in_ok-rows.ensures.fresh 1 (omega arith)).0,
)

pub part-c-requires-clause-held : goal.part-c-requires-clause-held
part-c-requires-clause-held c = (
  fresh,
  (c.part-b.ensures.others 2 (λ e. absurd (omega (arith, e)))).0
      ∙ (c.part-a.ensures.others 2 (λ e. absurd (omega (arith, e)))).0
      ∙ (c.in_ok-rows.ensures.fresh 2 (omega arith)).0,
)
