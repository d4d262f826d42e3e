use Rattle.std.proofs.Common.{sym, subst}
use Rattle.book_base.specs.declared.call.Call.{Call}
use Rattle.book_base.specs.Book.{IsCall}
use Rattle.book_base.specs.Order.{call_at}
use Rattle.frontier_check.proofs.Serving.{all-read, twin_found}
use Rattle.frontier_check.proofs.twins.twin_of.Goals as goal

pub op-requires : goal.op-requires
op-requires c =
    let book = c.args.book.now in
    subst (λ (call : Call). IsCall book call) (sym c.call_of-in-loop-index.ensures)
    (all-read (λ place. IsCall book (call_at place)) c.args.choices.now c.loop-index.index _
    c.requires.calls c.loop-index-test.true)

pub returns-then-op-clause-twin : goal.returns-then-op-clause-twin
returns-then-op-clause-twin c twin is =
    twin_found c.args.book.now c.args.choices.now c.loop-index.index _ twin c.args.new.place
    c.call_of-in-loop-index.result c.call_of.result c.op.result c.op-op.result
    c.requires.calls c.loop-index-test.true c.call_of-in-loop-index.ensures c.call_of.ensures
    c.op.ensures c.op-op.ensures c.if-op.true is
