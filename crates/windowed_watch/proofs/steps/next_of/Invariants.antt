use Rattle.windowed_watch.specs.Ahead.{events_of, HasNoneOf}
use Rattle.windowed_watch.proofs.steps.next_of.Given as goal

abbrev pub invariant-loop-k : goal.invariant-loop-k
invariant-loop-k l = HasNoneOf (events_of l.coming) l.k l.process
