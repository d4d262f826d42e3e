use Rattle.told_models.proofs.Walks.{walk_wide}
use Rattle.told_models.proofs.walk.Walk.is_spared.Goals as goal

pub serves-requires-clause-wide : goal.serves-requires-clause-wide
serves-requires-clause-wide c =
    walk_wide c.requires.walk.0 c.args.book.now c.args.self.now c.requires.walk.1
