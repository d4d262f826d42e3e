use Rattle.std.proofs.Common.{◌≡◌, ◌<◌, ◌++◌, length, map, decimal}
use Rattle.std.specs.List.{AllByRecursion}
use Rattle.client_scripts.proofs.tail_line.read_turns.Given as goal

abbrev pub invariant-loop-word : goal.invariant-loop-word
invariant-loop-word l = record {
  text : l.fn.words ≡ map decimal l.turns.items ++ l.words;
  callers : AllByRecursion (λ caller. caller < l.n) l.turns.items;
}

abbrev pub decreases-loop-word : goal.decreases-loop-word
decreases-loop-word l = length l.words
