use Rattle.std.proofs.Common.{◌≡◌, ◌++◌, map, take, decimal}
use Rattle.text_fields.specs.Counts.{AreNumbers}
use Rattle.book_text.specs.Fields.{spaced}
use Rattle.evidence_text.proofs.writer.put_numbers.Given as goal

abbrev pub invariant-loop-number : goal.invariant-loop-number
invariant-loop-number l = record {
  text : l.out.items ≡ l.initial.out.items ++ spaced (map decimal (take l.number-index l.numbers));
  small : AreNumbers (take l.number-index l.numbers);
}
