use Rattle.std.proofs.Common.{◌<◌, below_more, arith}
use Rattle.std.proofs.lemmas.Bool.{iff_false}
use Rattle.book_base.specs.Book.{calls_of}
use Rattle.broken_rules.proofs.search.broken_with_caller.Goals as goal

pub loop-number-preserved : goal.loop-number-preserved
loop-number-preserved c =
    below_more _ _ c.loop-number.invariant (iff_false c.is_broken.ensures c.if-is_broken.false)

pub returns-clause-none : goal.returns-clause-none
returns-clause-none c number breaks =
    let made : number < calls_of c.args.book.now c.args.caller = breaks.second in
    c.loop-number.invariant number (omega (arith, made, c.calls-number-end.ensures)) breaks
