use Rattle.std.proofs.Common.{length, arith}
use Rattle.book_base.specs.Next.{next_call, MayComeNext}
use Rattle.search_hints.proofs.Least.{may_come-from_least, may_not_come-from_least, marked-more, marked-skip, marked-all}
use Rattle.search_hints.proofs.next.all_next.Goals as goal
use Rattle.search_hints.proofs.next.all_next.Goals.{then-get, else-get}

pub loop-caller-preserved : goal.loop-caller-preserved
loop-caller-preserved c =
    let book = c.args.book.now in
    let cut = c.args.cut.now in
    let caller = c.loop-caller.caller in
    let marks = c.loop-caller.marks in
    elim c.if-get.branch [
      | then-get w ↦
          let may : MayComeNext book cut (next_call cut caller) =
          may_come-from_least book cut c.args.first caller c.args.view.now
          c.callers-caller-end.ensures.valid c.requires.first c.requires.view
          (omega (arith, c.get.ensures, c.get-in-loop-caller.ensures)) in
          rw w.marks-is (marked-more book cut caller marks w.with-marks.result
          c.loop-caller.invariant may w.with-marks.ensures)
      | else-get w ↦ rw w.marks-is (marked-skip book cut caller marks c.loop-caller.invariant
          (λ (may : MayComeNext book cut (next_call cut caller)).
          absurd (may_not_come-from_least book cut c.args.first c.args.view.now (length book)
          (next_call cut caller) c.requires.first c.requires.view
          (omega (arith, c.get.ensures, c.get-in-loop-caller.ensures)) may)))
    ]

pub returns : goal.returns
returns c = marked-all c.args.book.now c.args.cut.now c.loop-caller.caller c.loop-caller.marks
    (omega (arith, c.callers-caller-end.ensures.count)) c.loop-caller.invariant
