use Rattle.std.proofs.Common.{ℕ, ◌<◌}
use Rattle.book_base.specs.Book.{IsAnswered, Precedes}
use Rattle.book_base.specs.Next.{next_call}
use Rattle.set_order.proofs.search.SetSearch.may_come.Given as goal

abbrev pub invariant-loop-other : goal.invariant-loop-other
invariant-loop-other g l = (i : ℕ) → i < l.other → IsAnswered l.self.book.now (next_call l.counts i)
    → Precedes l.self.book.now (next_call l.counts i) (next_call l.counts l.caller) → ⊥
