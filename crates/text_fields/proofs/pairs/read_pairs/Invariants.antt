use Rattle.std.proofs.Common.{◌≡◌, ℕ, ◌≤◌, ◌++◌, length, get_or}
use Rattle.text_fields.specs.Counts.{AreNumbers, pair_words, HasBadPair}
use Rattle.text_fields.proofs.pairs.read_pairs.Given as goal

abbrev pub invariant-loop-caller : goal.invariant-loop-caller
invariant-loop-caller l = record {
  wide : length l.cut ≡ l.n;
  small : AreNumbers l.cut;
  text : l.fn.words ≡ pair_words 0 l.cut ++ l.words;
  zeros : (k : ℕ) → l.least ≤ k → get_or l.cut k 0 ≡ 0;
  bad : HasBadPair l.n l.least l.words → HasBadPair l.n 0 l.fn.words;
}

abbrev pub decreases-loop-caller : goal.decreases-loop-caller
decreases-loop-caller l = length l.words
