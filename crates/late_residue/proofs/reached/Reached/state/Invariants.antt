use Rattle.std.proofs.Common.{◌≡◌, ◌+◌, length, take}
use Rattle.late_residue.proofs.reached.Reached.state.Given as goal

abbrev pub invariant-loop-word : goal.invariant-loop-word
invariant-loop-word l = l.state ≡ record {
  words = take l.word-index l.self.list.items;
  room = length l.self.list.items + 1;
}
