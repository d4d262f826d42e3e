use Rattle.std.proofs.Common.{◌≡◌, length}
use Rattle.whole_texts.proofs.kept_orders.half_answered.Given as goal

abbrev pub invariant-loop-number : goal.invariant-loop-number
invariant-loop-number l = length l.book ≡ 2
