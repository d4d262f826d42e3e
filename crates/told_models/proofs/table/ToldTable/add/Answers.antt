use Rattle.std.proofs.Common.{refl, subst}
use Rattle.told_models.specs.Table.{Table, IsPromised}
use Rattle.told_models.proofs.Telling.{tells_step, keeps-tells, extends-tells}
use Rattle.told_models.proofs.table.ToldTable.add.Goals as goal

pub returns-clause-told : goal.returns-clause-told
returns-clause-told c =
    rw (← c.self.view_is) (tells_step _ _ c.args.state c.args.op c.args.transition refl refl
    c.in-Ok.ensures.updates.1 c.in-Ok.ensures.updates.2)

pub returns-clause-kept : goal.returns-clause-kept
returns-clause-kept c =
    extends-tells _ _ c.args.state c.args.op c.args.transition c.requires.untold
    (returns-clause-told c)

pub invariant_of-self-2 : goal.invariant_of-self-2
invariant_of-self-2 c = keeps-tells (record {
  init = c.self.inside.init;
  steps = c.self.inside.steps.entries;
  promises = c.self.inside.promises.keys;
}) _ c.args.state c.args.op c.args.transition c.self.invariant
    (tells_step _ _ c.args.state c.args.op c.args.transition refl refl
    c.in-Ok.ensures.updates.1 c.in-Ok.ensures.updates.2)
    (λ promised. c.requires.keeps (subst (λ (t : Table).
    IsPromised t c.args.op c.args.transition.reply) c.self.view_is promised))
