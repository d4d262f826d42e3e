use Rattle.std.proofs.Common.{◌≡◌, length}
use Rattle.late_residue.proofs.Revealing.{AreForgottenSoFar}
use Rattle.late_residue.proofs.late_residue.forget.Given as goal

abbrev pub invariant-loop-k : goal.invariant-loop-k
invariant-loop-k l = record {
  count : length l.ones.items ≡ length l.initial.ones.items;
  so_far : AreForgottenSoFar l.call l.reply l.initial.ones.items l.ones.items l.k;
}
