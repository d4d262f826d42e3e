use Rattle.frontier_check.specs.Prefix.{IsBookCapacity}
use Rattle.frontier_check.proofs.remaining.puts_of.Given as goal

abbrev pub invariant-loop-back : goal.invariant-loop-back
invariant-loop-back g l = IsBookCapacity (g.S.SeqObject.spec l.object) l.spare.room
