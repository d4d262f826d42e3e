use Rattle.std.proofs.Common.{ℕ, ◌<◌, ◌≡◌}
use Rattle.book_base.specs.Book.{calls_of}
use Rattle.smaller_book.proofs.one_key.first_call.Given as goal

abbrev pub invariant-loop-caller : goal.invariant-loop-caller
invariant-loop-caller l = (caller : ℕ) → caller < l.caller → calls_of l.book caller ≡ 0
