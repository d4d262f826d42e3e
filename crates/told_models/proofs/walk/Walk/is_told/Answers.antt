use Rattle.std.proofs.Common.{arith}
use Rattle.book_base.specs.Next.{next_call}
use Rattle.told_models.proofs.Walks.{walk_counts, walk_has_call}
use Rattle.told_models.proofs.walk.Walk.is_told.Goals as goal

pub index-requires : goal.index-requires
index-requires c = omega (
  arith,
  c.args.self.now.counts.ok.0,
  walk_counts c.args.table.now c.args.book.now c.args.self.now
      (next_call c.args.self.now.counts.items c.args.caller) c.requires.walk
      (c.requires.walk.here.may c.args.caller c.requires.waiting).is_call,
)

pub op-requires : goal.op-requires
op-requires c =
    walk_has_call c.args.table.now c.args.book.now c.args.self.now c.args.caller c.index.result.now
    c.from-number.result c.requires.walk c.requires.waiting c.index.ensures c.from-number.ensures
