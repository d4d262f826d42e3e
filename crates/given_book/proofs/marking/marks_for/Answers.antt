use Rattle.std.proofs.Common.{is_some, sym, subst}
use Rattle.frontier_check.specs.Verdict.{IsRight}
use Rattle.frontier_check.specs.declared.verdict.Verdict.{Verdict}
use Rattle.seq_objects.specs.Objects.{kind_spec}
use Rattle.book_picture.specs.Bars.{order_in}
use Rattle.given_book.specs.Marking.{AreMarksFor}
use Rattle.given_book.proofs.marking.marks_for.Goals as goal

pub marks_of-requires : goal.marks_of-requires
marks_of-requires c =
    let kind = c.args.kind in
    subst (λ (v : Verdict). IsRight (kind_spec kind) c.args.book.now v)
    c.in-Illegal.is c.requires

pub returns-in-Illegal : goal.returns-in-Illegal
returns-in-Illegal c =
    subst (λ (v : Verdict).
    AreMarksFor c.args.kind c.args.book.now (is_some (order_in v)) c.marks_of.result)
    (sym c.in-Illegal.is) c.marks_of.ensures
