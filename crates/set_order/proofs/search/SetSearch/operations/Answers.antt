use Rattle.std.proofs.Common.{◌∙◌}
use Rattle.set_order.proofs.Trying.{caller-within, number-within, operations-more}
use Rattle.set_order.proofs.search.SetSearch.operations.Goals as goal

pub bounds-counts-caller : goal.bounds-counts-caller
bounds-counts-caller g c = caller-within c.args.counts.now c.args.callers.now
    c.loop-caller.caller-index c.loop-caller-test.true c.requires.inside

pub op-requires : goal.op-requires
op-requires g c =
    number-within c.args.self.now.book.now c.args.counts.now c.args.callers.now
    c.loop-caller.caller-index c.from-number.result c.loop-caller-test.true c.from-number.ensures
    c.requires.calls

pub loop-caller-preserved : goal.loop-caller-preserved
loop-caller-preserved g c =
    c.in_ok-push.ensures.items
    ∙ operations-more c.args.self.now.book.now c.args.counts.now c.args.callers.now
    c.loop-caller.caller-index c.from-number.result c.op.result c.loop-caller.operations.items
    c.loop-caller.invariant c.loop-caller-test.true
    c.from-number.ensures c.op.ensures
