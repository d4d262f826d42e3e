use Rattle.std.proofs.Common.{◌≡◌, replicate, None}
use Rattle.history_books.proofs.sweep.no_pending.Given as goal

abbrev pub invariant-loop : goal.invariant-loop
invariant-loop l = l.pending.items ≡ replicate l.counter None
