use Rattle.std.proofs.Common.{◌≡◌, ◌++◌, take}
use Rattle.log_books.specs.Lines.{names_text}
use Rattle.log_books.specs.Words.{names_of}
use Rattle.log_books.proofs.key_part.put_names.Given as goal

abbrev pub invariant-loop-number : goal.invariant-loop-number
invariant-loop-number l = l.out.items ≡ l.initial.out.items ++ names_text 0 (take l.number (names_of l.names))
