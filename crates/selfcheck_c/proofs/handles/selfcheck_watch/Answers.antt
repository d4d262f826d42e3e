use Rattle.std.proofs.Common.{refl}
use Rattle.selfcheck_c.proofs.handles.selfcheck_watch.Goals as goal

pub returns-then-watch-clause-when : goal.returns-then-watch-clause-when
returns-then-watch-clause-when c = (λ _. c.watch.ensures.when.0 c.if-watch.true, λ _. refl)

pub returns-then-watch-clause-watching : goal.returns-then-watch-clause-watching
returns-then-watch-clause-watching c = λ _. c.watch.ensures.watching c.if-watch.true
