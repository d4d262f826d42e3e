use Rattle.std.proofs.Common.{◌+◌, ◌<◌, List, sym, subst, arith}
use Rattle.book_base.specs.Book.{Page, calls_of}
use Rattle.book_base.proofs.PageLemmas.{caller_from_call}
use Rattle.smaller_book.proofs.Building.{PutsTo, puts_more}
use Rattle.smaller_book.proofs.numbered.put_operations.Goals as goal

pub loop-k-preserved : goal.loop-k-preserved
loop-k-preserved c =
    let book = c.args.book.now in
    let numbers = c.args.numbers.now in
    let i = c.args.caller in
    let k = c.loop-k.k in
    let part = c.loop-k.part in
    let inside : k < calls_of part i =
    omega (arith, c.loop-k.invariant.calls i, c.requires.calls) in
    let P : List Page → Type 0 = PutsTo book numbers i (k + 1) c.args.part.now in
    subst P (sym c.set_op.ensures)
    (puts_more book numbers i k c.op-op.result c.args.part.now part c.loop-k.invariant
    (caller_from_call part i k inside) inside c.op-op.ensures)
