use Rattle.std.proofs.Common.{ℕ, ◌<◌, ◌≤◌, get_or}
use Rattle.book_base.specs.Book.{answers_of}
use Rattle.set_order.proofs.search.SetSearch.holds_answered.Given as goal

abbrev pub invariant-loop-caller : goal.invariant-loop-caller
invariant-loop-caller g l = (i : ℕ) → i < l.caller
    → answers_of l.self.book.now i ≤ get_or l.counts i 0
