use Rattle.std.proofs.Common.{List, sym, subst}
use Rattle.book_base.specs.declared.call.Place.{Place}
use Rattle.frontier_check.specs.Standing.{AreMarks}
use Rattle.frontier_check.proofs.Resuming.{marks_longer}
use Rattle.frontier_check.proofs.verdict.order_on.Goals as goal

pub returns-in-Some-clause-marks : goal.returns-in-Some-clause-marks
returns-in-Some-clause-marks g c =
    let spec = g.S.SeqObject.spec c.args.object.now in
    let book = c.args.book.now in
    let marks = c.args._marks.now in
    subst (λ (ps : List Place). AreMarks spec book ps 0 marks)
    (sym c.in_ok-extend_from_slice-in-Some.ensures.items)
    (marks_longer spec book c.args.prefix.places.items c.deref.result.now 0 marks
    c.requires.marks)

pub returns-clause-marks : goal.returns-clause-marks
returns-clause-marks g c =
    let spec = g.S.SeqObject.spec c.args.object.now in
    let book = c.args.book.now in
    let marks = c.args._marks.now in
    subst (λ (ps : List Place). AreMarks spec book ps 0 marks)
    (sym c.in_ok-extend_from_slice-in-None.ensures.items)
    (marks_longer spec book c.args.prefix.places.items c.args.later.now 0 marks
    c.requires.marks)
