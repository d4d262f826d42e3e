use Rattle.smaller_book.proofs.Building.{PutsTo}
use Rattle.smaller_book.proofs.numbered.put_operations.Given as goal

abbrev pub invariant-loop-k : goal.invariant-loop-k
invariant-loop-k l = PutsTo l.book l.numbers l.caller l.k l.initial.part l.part
