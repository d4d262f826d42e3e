use Rattle.std.proofs.Common.{◌≡◌, drop}
use Rattle.book_text.proofs.entry.take_operation.Given as goal

abbrev pub invariant-loop : goal.invariant-loop
invariant-loop g l = l.words ≡ drop l.counter l.initial.words
