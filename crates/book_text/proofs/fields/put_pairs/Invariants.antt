use Rattle.std.proofs.Common.{◌≡◌, ◌++◌, take}
use Rattle.text_fields.specs.Counts.{pair_words}
use Rattle.book_text.specs.Fields.{spaced}
use Rattle.book_text.proofs.fields.put_pairs.Given as goal

abbrev pub invariant-loop-j : goal.invariant-loop-j
invariant-loop-j l = l.out.items ≡ l.initial.out.items ++ spaced (pair_words 0 (take l.j l.cut))
