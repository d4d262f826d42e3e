use Rattle.std.proofs.Common.{ℕ, ◌<◌, ◌≤◌, ◌⊎◌, slice_index}
use Rattle.book_base.specs.Book.{answers_of}
use Rattle.frontier_check.proofs.resume.is_quiet.Given as goal

abbrev pub invariant-loop-caller : goal.invariant-loop-caller
invariant-loop-caller l = (i : ℕ) → i < l.caller → (slice_index l.cut i ≤ slice_index l.before i)
    ⊎ (answers_of l.book i ≤ slice_index l.before i)
