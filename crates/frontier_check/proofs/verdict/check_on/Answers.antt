use Rattle.std.proofs.Common.{List, sym, subst}
use Rattle.book_base.specs.declared.call.Place.{Place}
use Rattle.frontier_check.specs.Standing.{AreMarks}
use Rattle.frontier_check.proofs.Resuming.{marks_longer}
use Rattle.frontier_check.proofs.verdict.check_on.Goals as goal

pub returns-clause-stands : goal.returns-clause-stands
returns-clause-stands g c =
    let spec = g.S.SeqObject.spec c.args.object.now in
    let book = c.args.book.now in
    let prefix = c.put_fresh.new.prefix in
    let marks = c.mark_end.new.marks.items in
    let put = c.in_ok-put_fresh.ensures.put c.if-not-branch-2.false in
    let ended = c.in_ok-mark_end-in-Some.ensures spec book put c.answers_in.ensures
    (c.in_ok-put_fresh.ensures.marks c.if-not-branch-2.false) in
    subst (λ (ps : List Place). AreMarks spec book ps 0 marks)
    (sym c.in_ok-extend_from_slice-in-Some.ensures.items)
    (marks_longer spec book prefix.places.items c.deref-in-Some.result.now 0 marks ended)
