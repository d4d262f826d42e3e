use Rattle.std.proofs.Common.{◌<◌, List, subst, arith}
use Rattle.book_base.specs.Book.{Page}
use Rattle.book_base.specs.Pruning.{HasOneOpen}
use Rattle.legal_orders.proofs.BookAtLaws.{is_the_only_one}
use Rattle.smaller_book.specs.declared.TheConstants.{FEW_CALLS}
use Rattle.smaller_book.specs.Part.{size_of}
use Rattle.smaller_book.proofs.judging.is_large_and_open_at.Goals as goal

pub returns-clause-large : goal.returns-clause-large
returns-clause-large c _ =
    let same = is_the_only_one c.args.book.now c.args.cut.now c.in_ok-part.part
    c.callers-callers.ensures.valid c.in_ok-part.ensures in
    subst (λ (b : List Page). FEW_CALLS < size_of b) same
    (omega (arith, c.calls_of_all.ensures, c.if-calls_of_all-le-FEW_CALLS.false))

pub returns-clause-open : goal.returns-clause-open
returns-clause-open c is =
    let same = is_the_only_one c.args.book.now c.args.cut.now c.in_ok-part.part
    c.callers-callers.ensures.valid c.in_ok-part.ensures in
    subst (λ (b : List Page). HasOneOpen b) same (c.has_one_open.ensures.one is)
