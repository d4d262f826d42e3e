use Rattle.std.proofs.Common.{List, sym, subst}
use Rattle.frontier_check.specs.declared.kept_order.OrderMark.{OrderMark}
use Rattle.frontier_check.specs.Standing.{AreMarks}
use Rattle.frontier_check.proofs.Resuming.{marks_fewer}
use Rattle.frontier_check.proofs.verdict.check_before.Goals as goal

pub order_put-requires : goal.order_put-requires
order_put-requires g c =
    let spec = g.S.SeqObject.spec c.args.object.now in
    let book = c.args.book.now in
    let order = c.loop.order.items in
    record {
      marks = subst (λ (ms : List OrderMark). AreMarks spec book order 0 ms)
          (sym c.truncate.ensures.items)
          (marks_fewer spec book order 0 c.loop.left
          c.loop.marks.items c.loop.invariant);
    }

pub check_at_marks-requires : goal.check_at_marks-requires
check_at_marks-requires g c =
    let spec = g.S.SeqObject.spec c.args.object.now in
    let book = c.args.book.now in
    let order = c.loop.order.items in
    record {
      marks = subst (λ (ms : List OrderMark). AreMarks spec book order 0 ms)
          (sym c.truncate-2.ensures.items)
          (marks_fewer spec book order 0 c.loop.left c.loop.marks.items c.loop.invariant);
    }
