use Rattle.std.proofs.Common.{ℕ, length, take, arith, below_more}
use Rattle.stack_levels.specs.Tables.{nodes_of}
use Rattle.stack_levels.proofs.Closing.{each_one}
use Rattle.stack_levels.proofs.closure.Closure.has_all_at.Goals as goal

pub loop-k-preserved : goal.loop-k-preserved
loop-k-preserved g c = below_more _ _ c.loop-k.invariant (c.has_at.ensures c.if-not-has_at.false)

pub returns : goal.returns
returns g c told =
    let book = c.args.self.now.on.now.book.now in
    each_one (λ (p : ℕ).
    nodes_of book c.args.self.now.table.now.cuts.keys c.args.self.now.table.now.nodes.keys p
    (take (length book) c.args.counts)) c.args.parents.now
    (λ j below. c.loop-k.invariant j (omega (arith, below, c.loop-k-test.false)))
