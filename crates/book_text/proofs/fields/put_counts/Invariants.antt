use Rattle.std.proofs.Common.{◌≡◌, ◌++◌, map, take, decimal}
use Rattle.book_text.specs.Fields.{spaced}
use Rattle.book_text.proofs.fields.put_counts.Given as goal

abbrev pub invariant-loop-i : goal.invariant-loop-i
invariant-loop-i l = l.out.items ≡ l.initial.out.items ++ spaced (map decimal (take l.i l.cut))
