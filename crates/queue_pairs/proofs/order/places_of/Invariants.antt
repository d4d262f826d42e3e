use Rattle.std.proofs.Common.{◌-◌, length}
use Rattle.book_base.specs.Reaching.{SufficesAfter}
use Rattle.queue_pairs.proofs.order.places_of.Given as goal

abbrev pub invariant-loop-call : goal.invariant-loop-call
invariant-loop-call g l = SufficesAfter (g.S.SeqObject.spec l.object).next l.state.words
    (length l.calls - l.call-index) l.state.room
