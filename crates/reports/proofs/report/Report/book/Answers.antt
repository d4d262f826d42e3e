use Rattle.std.proofs.Common.{sym, subst}
use Rattle.reports.specs.Filling.{AreOfABook}
use Rattle.reports.proofs.Filling.{report_of_a_book}
use Rattle.reports.proofs.report.Report.book.Goals as goal

pub book_of-requires : goal.book_of-requires
book_of-requires c = subst AreOfABook (sym c.all.ensures.lines)
    (report_of_a_book c.args.self.now c.all.ensures.report)
