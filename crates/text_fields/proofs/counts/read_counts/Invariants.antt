use Rattle.std.proofs.Common.{◌≡◌, ◌++◌, length, take, map, decimal}
use Rattle.text_fields.specs.Counts.{AreAtMost}
use Rattle.text_fields.proofs.counts.read_counts.Given as goal

abbrev pub invariant-loop-i : goal.invariant-loop-i
invariant-loop-i l = record {
  wide : length l.counts ≡ l.n;
  few : AreAtMost l.most (take l.i l.counts);
  text : l.fn.words ≡ map decimal (take l.i l.counts) ++ l.words;
}
