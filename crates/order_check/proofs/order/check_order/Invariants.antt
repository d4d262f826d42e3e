use Rattle.std.proofs.Common.{◌≡◌, ℕ, ◌-◌, ◌<◌, ◌≤◌, sum, get_or}
use Rattle.book_base.specs.Book.{calls_of}
use Rattle.book_base.specs.Reaching.{SufficesAfter}
use Rattle.order_check.specs.declared.order.TheConstants.{MOST_CALLS}
use Rattle.order_check.specs.Fault.{list_before}
use Rattle.order_check.specs.Standing.{IsStanding, IsInPlace}
use Rattle.order_check.proofs.Placing.{IsGiven}
use Rattle.order_check.proofs.order.check_order.Given as goal

abbrev pub invariant-loop-p : goal.invariant-loop-p
invariant-loop-p g l = record {
  fits : SufficesAfter (g.S.SeqObject.spec l.object).next l.state.words (MOST_CALLS - l.p)
      l.state.room;
  words : l.state.words ≡ list_before (g.S.SeqObject.spec l.object) l.book l.order l.p;
  counted : l.p ≤ sum l.standing;
  made : (i : ℕ) → get_or l.standing i 0 ≤ calls_of l.book i;
  standing : IsStanding l.book l.order l.p l.standing;
  in_place : (k : ℕ) → k < l.p → IsInPlace l.book l.order k;
  given : (k : ℕ) → k < l.p → IsGiven (g.S.SeqObject.spec l.object) l.book l.order k;
}
