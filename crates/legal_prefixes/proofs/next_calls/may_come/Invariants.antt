use Rattle.std.proofs.Common.{ℕ, ◌<◌}
use Rattle.book_base.specs.Book.{IsAnswered, Precedes}
use Rattle.book_base.specs.Next.{next_call}
use Rattle.legal_prefixes.proofs.next_calls.may_come.Given as goal

abbrev pub invariant-loop-other : goal.invariant-loop-other
invariant-loop-other l = (i : ℕ) → i < l.other → IsAnswered l.book (next_call l.cut i)
    → Precedes l.book (next_call l.cut i) (next_call l.cut l.caller) → ⊥
