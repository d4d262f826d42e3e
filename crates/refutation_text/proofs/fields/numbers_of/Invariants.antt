use Rattle.std.proofs.Common.{◌≡◌, ◌++◌, map, decimal, length}
use Rattle.text_fields.specs.Counts.{AreNumbers}
use Rattle.refutation_text.proofs.fields.numbers_of.Given as goal

abbrev pub invariant-loop-keys : goal.invariant-loop-keys
invariant-loop-keys l = record {
  numbers : AreNumbers l.keys.items;
  text : l.fn.words ≡ map decimal l.keys.items ++ l.words;
}

abbrev pub decreases-loop-keys : goal.decreases-loop-keys
decreases-loop-keys l = length l.words
