use Rattle.std.proofs.Common.{ℕ, ◌<◌, ◌≤◌, get_or}
use Rattle.book_base.specs.Book.{answers_of}
use Rattle.legal_prefixes.proofs.next_calls.holds_answered.Given as goal

abbrev pub invariant-loop-caller : goal.invariant-loop-caller
invariant-loop-caller l = (i : ℕ) → i < l.caller → answers_of l.book i ≤ get_or l.cut i 0
