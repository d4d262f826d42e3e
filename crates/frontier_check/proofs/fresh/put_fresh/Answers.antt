use Rattle.std.proofs.Common.{◌∙◌, ℕ, sym, subst}
use Rattle.frontier_check.specs.Prefix.{IsBookCapacity}
use Rattle.frontier_check.proofs.Resuming.{marks_put}
use Rattle.frontier_check.proofs.fresh.put_fresh.Goals as goal

pub loop-preserved : goal.loop-preserved
loop-preserved g c =
    let object = c.args.object.now in
    let put = c.in_ok-put.ensures.put c.if-not-branch.false in
    record {
      put = put;
      room = c.put.ensures.room ∙ c.loop.invariant.room;
      spare = subst (λ (n : ℕ). IsBookCapacity (g.S.SeqObject.spec object) n)
          (sym (c.look.ensures.room ∙ c.place_after.ensures.room)) c.loop.invariant.spare;
      counts = c.look.ensures.counts;
      taken = c.look.ensures.taken;
      marks = marks_put
          (g.S.SeqObject.spec object) c.args.book.now c.put.new.self c.loop.prefix.places.items
          c.in-Some.place c.answers_in-answered.result c.loop.marks.items
          c.mark_at_interval.new.marks.items put c.answers_in-answered.ensures
          c.in_ok-put.ensures.places c.in_ok-mark_at_interval.ensures c.loop.invariant.marks;
    }
