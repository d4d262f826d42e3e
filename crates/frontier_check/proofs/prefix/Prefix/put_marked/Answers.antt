use Rattle.std.proofs.Common.{◌∙◌}
use Rattle.frontier_check.proofs.Resuming.{marks_put}
use Rattle.frontier_check.proofs.prefix.Prefix.put_marked.Goals as goal

pub loop-place-preserved : goal.loop-place-preserved
loop-place-preserved g c =
    let object = c.args.object.now in
    let put = c.in_ok-put.ensures.put c.if-not-branch.false in
    record {
      put = put;
      room = c.put.ensures.room ∙ c.loop-place.invariant.room;
      marks = marks_put
          (g.S.SeqObject.spec object) c.args.book.now c.put.new.self c.loop-place.self.places.items
          _ c.answers_in-answered.result c.loop-place.marks.items
          c.mark_at_interval.new.marks.items put c.answers_in-answered.ensures
          c.in_ok-put.ensures.places c.in_ok-mark_at_interval.ensures c.loop-place.invariant.marks;
    }
