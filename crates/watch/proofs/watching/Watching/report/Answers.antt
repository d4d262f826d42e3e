use Rattle.std.proofs.Common.{◌≡◌, ◌++◌, ℕ, List, length, false}
use Rattle.watch.specs.Output.{Legal}
use Rattle.watch.specs.Account.{Has}
use Rattle.watch.specs.Watching.{AreSettled}
use Rattle.watch.proofs.Outputs.{settled_more}
use Rattle.watch.proofs.Changing.{tells_after}
use Rattle.watch.proofs.watching.Watching.report.Goals as goal

pub returns-then-branch-clause-over : goal.returns-then-branch-clause-over
returns-then-branch-clause-over c same asked lines due said output h says =
    c.in_ok-settle.ensures.over c.if-branch.true asked lines due said output h

pub returns-clause-goes_on : goal.returns-clause-goes_on
returns-clause-goes_on c same asked lines due said output h says =
    tells_after asked c.args.self.now c.settle.new.self c.tell_legal.new.self lines due said output
    (λ after. c.tell_legal.new.self.is_unsure ≡ false → Has after (Legal (length lines)))
    (c.in_ok-settle.ensures.goes_on c.if-branch.false asked lines due said output h)
    (λ after settled holds. c.in_ok-tell_legal.ensures.told asked lines due said after holds says
    settled)
