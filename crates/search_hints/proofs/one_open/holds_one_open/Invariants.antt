use Rattle.std.proofs.Common.{ℕ, ◌+◌, ◌<◌, ◌≤◌, slice_index}
use Rattle.book_base.specs.Book.{answers_of}
use Rattle.search_hints.proofs.one_open.holds_one_open.Given as goal

abbrev pub invariant-loop-caller : goal.invariant-loop-caller
invariant-loop-caller l = (i : ℕ) → i < l.caller → slice_index l.view i ≤ answers_of l.book i + 1
