use Rattle.std.proofs.Common.{◌∙◌, length, ap}
use Rattle.told_models.proofs.Walks.{walk_wide}
use Rattle.told_models.proofs.walk.Walk.see_promises.Goals as goal

pub turns_of-self-requires-clause-wide : goal.turns_of-self-requires-clause-wide
turns_of-self-requires-clause-wide c =
    ap length c.deref.ensures.value
    ∙ walk_wide c.args.table.now c.args.book.now c.args.self.now c.requires.walk
