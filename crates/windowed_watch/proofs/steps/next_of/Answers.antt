use Rattle.std.proofs.Common.{sym, ◌∙◌}
use Rattle.windowed_watch.proofs.Foretelling.{next_here, none_more}
use Rattle.windowed_watch.proofs.steps.next_of.Goals as goal

pub returns-then-process : goal.returns-then-process
returns-then-process c = next_here c.args.coming.now c.loop-k.k c.args.process _ c.loop-k.invariant
    c.loop-k-test.true (sym c.process.ensures ∙ c.if-process.true)

pub loop-k-preserved : goal.loop-k-preserved
loop-k-preserved c = none_more c.args.coming.now c.loop-k.k c.args.process _ c.loop-k.invariant
    c.loop-k-test.true (λ mine. c.if-process.false (c.process.ensures ∙ mine))
