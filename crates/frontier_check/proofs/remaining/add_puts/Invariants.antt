use Rattle.std.proofs.Common.{◌-◌}
use Rattle.book_base.specs.Reaching.{SufficesAfter}
use Rattle.frontier_check.specs.declared.walk.TheConstants.{MOST_CALLS}
use Rattle.frontier_check.proofs.remaining.add_puts.Given as goal

abbrev pub invariant-loop-back : goal.invariant-loop-back
invariant-loop-back g l = SufficesAfter (g.S.SeqObject.spec l.object).next l.here.words
    (MOST_CALLS - l.back) l.here.room
