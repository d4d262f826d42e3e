use Rattle.std.proofs.Common.{◌≡◌, ◌+◌, sum, take}
use Rattle.broken_rules.proofs.breaking.holds_at_most.Given as goal

abbrev pub invariant-loop-count : goal.invariant-loop-count
invariant-loop-count l = sum (take l.count-index l.view) + l.more ≡ l.most
