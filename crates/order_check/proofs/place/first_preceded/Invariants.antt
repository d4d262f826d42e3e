use Rattle.std.proofs.Common.{ℕ, ◌<◌}
use Rattle.book_base.specs.declared.call.Call.{Call}
use Rattle.book_base.specs.Book.{Precedes}
use Rattle.book_base.specs.Order.{StandsAt}
use Rattle.order_check.proofs.place.first_preceded.Given as goal

abbrev pub invariant-loop-q : goal.invariant-loop-q
invariant-loop-q l = (j : ℕ) (other : Call) → j < l.q → StandsAt l.order j other
    → Precedes l.book l.call other → ⊥
