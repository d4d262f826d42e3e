use Rattle.std.proofs.Common.{◌≡◌, refl, sym, ap, subst, Some, ◌∙◌}
use Rattle.told_models.specs.Table.{Table, told_step}
use Rattle.told_models.proofs.Telling.{takes_promise, keeps-takes, extends-takes}
use Rattle.told_models.proofs.table.ToldTable.add_promise.Goals as goal

pub invariant_of-self-2 : goal.invariant_of-self-2
invariant_of-self-2 c = keeps-takes (record {
  init = c.self.inside.init;
  steps = c.self.inside.steps.entries;
  promises = c.self.inside.promises.keys;
}) _ c.args.op c.args.reply c.self.invariant
    (takes_promise _ _ c.args.op c.args.reply refl refl c.in-Ok.ensures.updates.1
    c.in-Ok.ensures.updates.2)
    (λ state transition told. c.requires state transition
    (ap (λ (t : Table). told_step t state c.args.op) (sym c.self.view_is) ∙ told))

pub returns-clause-promised : goal.returns-clause-promised
returns-clause-promised c = rw (← c.self.view_is) (takes_promise _ _ c.args.op c.args.reply refl
    refl c.in-Ok.ensures.updates.1 c.in-Ok.ensures.updates.2)

pub returns-clause-kept : goal.returns-clause-kept
returns-clause-kept c = extends-takes _ _ c.args.op c.args.reply (returns-clause-promised c)
