use Rattle.std.proofs.Common.{List, sym, ap, ◌∙◌, length, subst}
use Rattle.book_base.specs.Book.{Page, answered}
use Rattle.book_base.specs.Cut.{IsWithin}
use Rattle.reports.proofs.Filling.{length-book}
use Rattle.reports.proofs.report.Report.witness.Goals as goal

pub at-requires-clause-wide : goal.at-requires-clause-wide
at-requires-clause-wide c =
    c.in-Some.ensures.fits.0 ∙ sym
    (ap (length {A = Page}) c.in_ok-book.ensures ∙ length-book c.args.self.now.lines)

pub at-requires-clause-answered : goal.at-requires-clause-answered
at-requires-clause-answered c = subst (λ (b : List Page). IsWithin c.in-Some.cut (answered b))
    (sym c.in_ok-book.ensures) c.in-Some.ensures.fits.1
