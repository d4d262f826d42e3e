use Rattle.std.proofs.Common.{sym, subst, arith}
use Rattle.book_base.specs.Next.{next_call}
use Rattle.search_hints.specs.Marks.{IsMarked}
use Rattle.told_models.proofs.Walks.{walk_counts, walk_call, walk_has_call, walk_at_once}
use Rattle.told_models.proofs.Weighing.{number_marked-within}
use Rattle.told_models.proofs.walk.Walk.to_try.Goals as goal

pub index-requires : goal.index-requires
index-requires c = omega (
  arith,
  c.args.self.now.counts.ok.0,
  walk_counts c.args.table.now c.args.book.now c.args.self.now
      (next_call c.args.self.now.counts.items c.args.caller) c.requires.walk
      (c.requires.walk.here.may c.args.caller c.requires.waiting).is_call,
)

pub is_promised-requires : goal.is_promised-requires
is_promised-requires c =
    walk_has_call c.args.table.now c.args.book.now c.args.self.now c.args.caller c.index.result.now
    c.from-number.result c.requires.walk c.requires.waiting c.index.ensures c.from-number.ensures

pub returns-then-is_promised-clause-walk : goal.returns-then-is_promised-clause-walk
returns-then-is_promised-clause-walk c = walk_at_once c.args.table.now c.args.book.now
    c.args.self.now c.only.result c.args.caller
    (record { caller = c.args.caller; number = c.from-number.result }) c.args.transition
    c.requires.walk c.requires.waiting c.only.ensures (walk_call c.args.table.now c.args.book.now
    c.args.self.now c.args.caller c.index.result.now c.from-number.result c.requires.walk
    c.requires.waiting c.index.ensures c.from-number.ensures) c.requires.told
    c.requires.recorded (c.is_promised.ensures c.if-is_promised.true)

pub returns-then-is_promised-clause-fewer : goal.returns-then-is_promised-clause-fewer
returns-then-is_promised-clause-fewer c = number_marked-within c.only.result
    c.args.self.now.waiting (λ i marked. subst (IsMarked c.args.self.now.waiting)
    (sym ((c.only.ensures i).0 marked)) c.requires.waiting)
