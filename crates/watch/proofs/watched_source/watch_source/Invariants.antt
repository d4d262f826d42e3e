use Rattle.watch.proofs.Running.{Runs}
use Rattle.watch.proofs.watched_source.watch_source.Given as goal

-- what was read and written so far
abbrev pub invariant-loop : goal.invariant-loop
invariant-loop g l =
    Runs l.fn.settings l.watching (g.S.Source.left l.initial.source)
    (g.S.Source.left l.source) (g.K.Sink.taken l.initial.sink) (g.K.Sink.taken l.sink)
    l.lines.bytes
