use Rattle.std.proofs.Common.{arith}
use Rattle.watch.proofs.Settling.{join_findings}
use Rattle.watch.proofs.watching.joined.Goals as goal

pub returns-then-one-other-clause-finding : goal.returns-then-one-other-clause-finding
returns-then-one-other-clause-finding c asked said f g =
    join_findings asked said c.args.one c.args.other c.min-first.result f g
    (omega (arith, c.if-one-other.true)) c.min-first.ensures

pub returns-else-one-other-clause-finding : goal.returns-else-one-other-clause-finding
returns-else-one-other-clause-finding c asked said f g =
    join_findings asked said c.args.other c.args.one c.min-first.result g f
    (omega (arith, c.if-one-other.false)) (omega (arith, c.min-first.ensures))
