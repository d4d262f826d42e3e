use Rattle.std.proofs.Common.{◌≡◌, ◌++◌, take}
use Rattle.log_books.specs.Lines.{calls_text}
use Rattle.log_books.proofs.key_part.put_calls.Given as goal

abbrev pub invariant-loop-k : goal.invariant-loop-k
invariant-loop-k l = l.out.items ≡ l.initial.out.items ++ calls_text (take l.k l.calls) (take l.k l.names)
