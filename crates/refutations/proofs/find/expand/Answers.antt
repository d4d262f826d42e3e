use Rattle.std.proofs.Common.{ℕ, ◌∙◌, sym, subst}
use Rattle.refutations.specs.Stored.{AreFit}
use Rattle.refutations.proofs.find.expand.Goals as goal

pub loop-caller-preserved : goal.loop-caller-preserved
loop-caller-preserved g c =
    let spec = g.S.SeqObject.spec c.args.object.now in
    let book = c.args.book.now in
    let fits = rw c.in-Some-2.is at c.in_ok-after.ensures.fits in
    let before : AreFit spec book c.next_item.new.state.room c.loop-caller.items =
    subst (λ (n : ℕ). AreFit spec book n c.loop-caller.items) (sym c.in_ok-after.ensures.room)
    c.loop-caller.invariant.fit in
    record {
      room = c.in_ok-after.ensures.room ∙ c.loop-caller.invariant.room;
      fit = c.in_ok-push.ensures.fit spec book c.next_item.new.state.room before fits;
    }
