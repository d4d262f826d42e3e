use Rattle.std.proofs.Common.{ℕ, ◌<◌, Option, Some, None, IfNone, arith}
use Rattle.book_base.specs.Next.{next_call}
use Rattle.search_hints.specs.Marks.{IsMarked}
use Rattle.told_models.proofs.Walks.{walk_wide, walk_counts}
use Rattle.told_models.proofs.walk.Walk.least_turn.Goals as goal

if_none : {T P Q : Type 0} (o : Option T) → (P → Q) → IfNone o P → IfNone o Q
if_none (Some x) f p = tt
if_none None f p = f p

pub returns-clause-none : goal.returns-clause-none
returns-clause-none c = if_none c.loop-caller.best
    (λ (none : (i : ℕ) → i < c.loop-caller.caller → IsMarked c.args.among i → ⊥)
    (i : ℕ) (marked : IsMarked c.args.among i). none i (omega (
      arith,
      c.loop-caller-test.false,
      c.callers-caller-end.ensures.count,
      walk_wide c.requires.walk.0 c.args.book.now c.args.self.now c.requires.walk.1,
      walk_counts c.requires.walk.0 c.args.book.now c.args.self.now
          (next_call c.args.self.now.counts.items i) c.requires.walk.1
          (c.requires.walk.1.here.may i (c.requires.waiting i marked)).is_call,
    )) marked) c.loop-caller.invariant.1
