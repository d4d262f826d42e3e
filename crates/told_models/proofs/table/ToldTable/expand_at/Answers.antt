use Rattle.std.proofs.Common.{sym, ◌∙◌, arith}
use Rattle.told_models.proofs.Searching.{expanded_at-more, told_at_all, near-insert}
use Rattle.told_models.proofs.Inserting.{insert_continues}
use Rattle.told_models.proofs.table.ToldTable.expand_at.Goals as goal

pub loop-k-preserved : goal.loop-k-preserved
loop-k-preserved c =
    let ops = c.args.ops.now.keys in
    let states = c.loop-k.states.keys in
    let next = c.in-Some.transition.next in
    let told = sym c.get.ensures ∙ c.in-Some.is in
    rw c.in_ok-insert.ensures.keys (record {
      continues = λ k state at. insert_continues states next k state
          (c.loop-k.invariant.continues k state at);
      expanded = expanded_at-more c.args.self.now ops states c.args.state c.loop-k.k
          c.index-op.result.now c.in-Some.transition c.index-op.ensures told
          c.loop-k.invariant.expanded;
      near = λ most near before. near-insert c.args.self.now ops states c.args.state c.loop-k.k
          c.index-op.result.now most c.in-Some.transition c.index-op.ensures told near
          (c.loop-k.invariant.near most near before);
    })

pub returns-clause-expanded : goal.returns-clause-expanded
returns-clause-expanded c op among = told_at_all c.args.self.now c.args.ops.now.keys
    c.loop-k.states.keys c.args.state c.loop-k.k op
    (omega (arith, c.len-k-end.ensures.len, c.loop-k-test.false)) c.loop-k.invariant.expanded among
