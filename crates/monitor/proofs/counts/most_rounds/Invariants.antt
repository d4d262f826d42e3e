use Rattle.std.proofs.Common.{◌≡◌, length, take, sum_by}
use Rattle.monitor.proofs.counts.most_rounds.Given as goal

abbrev pub invariant-loop-i : goal.invariant-loop-i
invariant-loop-i l = l.calls ≡ sum_by length (take l.i l.script.operations)
