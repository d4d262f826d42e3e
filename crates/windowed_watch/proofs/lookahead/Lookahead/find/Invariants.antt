use Rattle.std.proofs.Common.{◌-◌}
use Rattle.windowed_watch.proofs.Finding.{FindsIn}
use Rattle.windowed_watch.proofs.lookahead.Lookahead.find.Given as goal

abbrev pub invariant-loop-illegal : goal.invariant-loop-illegal
invariant-loop-illegal l = FindsIn l.self l.legal l.illegal

abbrev pub decreases-loop-illegal : goal.decreases-loop-illegal
decreases-loop-illegal l = l.illegal - l.legal
