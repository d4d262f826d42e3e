use Rattle.std.proofs.Common.{arith}
use Rattle.book_base.specs.Book.{IsAnswered}
use Rattle.frontier_check.proofs.Serving.{serves-second}
use Rattle.frontier_check.proofs.twins.serves.Goals as goal

pub returns-clause-second : goal.returns-clause-second
returns-clause-second c untrue =
    let answered : IsAnswered c.args.book.now c.args.b = omega (arith, c.answers.ensures) in
    serves-second c.args.book.now c.args.a c.args.b c.record.result c.record-2.result
    c.within.result c.requires.valid c.requires.same answered
    c.record.ensures.record c.record-2.ensures.record c.within.ensures untrue
