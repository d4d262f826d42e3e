use Rattle.std.proofs.Common.{◌≡◌, length, slice_get, sym, ap, ◌∙◌, arith}
use Rattle.std.proofs.lemmas.Option.{slice_get_within}
use Rattle.told_models.specs.Table.{Table, told_step}
use Rattle.told_models.proofs.Telling.{told_at}
use Rattle.told_models.proofs.table.ToldTable.changed_by.Goals as goal

pub returns-clause-none : goal.returns-clause-none
returns-clause-none c state transition told =
    let entries = c.self.inside.steps.entries in
    let at = told_at entries state c.args.op transition
    (ap (λ (t : Table). told_step t state c.args.op) c.self.view_is ∙ told) in
    c.loop-k.invariant at.0 state transition
    (omega (
      arith,
      slice_get_within entries at.0 ((state, c.args.op), transition) at.1,
      c.len-k-end.ensures.len,
      c.loop-k-test.false,
    )) at.1
