use Rattle.std.proofs.Common.{◌≡◌, ℕ, List, Some, sym, subst, slice_get, arith}
use Rattle.std.proofs.lemmas.Grind.{common_steps}
use Rattle.refutations.specs.Closed.{Item}
use Rattle.refutations.specs.Stored.{item_of, AreFit, AreListed}
use Rattle.refutations.proofs.Leading.{with_entry-made}
use Rattle.refutations.proofs.closed.add.Goals as goal

pub returns-clause-fit : goal.returns-clause-fit
returns-clause-fit g c =
    let spec = g.S.SeqObject.spec c.args.object.now in
    let book = c.args.book.now in
    let fit : AreFit spec book c.after.new.state.room c.args.items.now =
    subst (λ (n : ℕ). AreFit spec book n c.args.items.now) (sym c.after.ensures.room) c.requires in
    c.in_ok-push.ensures.fit spec book c.after.new.state.room fit c.in_ok-made.ensures.fits

pub returns-clause-made : goal.returns-clause-made
returns-clause-made g c made list listed =
    let spec = g.S.SeqObject.spec c.args.object.now in
    let book = c.args.book.now in
    let entry = c.args.entry in
    let item = item_of c.in-Some.item.now in
    let at : slice_get list entry.item ≡ Some item = c.in-Some.ensures.item list listed in (
      (item, at, grind (arith, common_steps)),
      subst (λ (l : List Item). AreListed c.push.new.self l)
          (with_entry-made spec book list entry item (item_of c.in_ok-made.made) at
          c.in_ok-made.ensures.item) (c.in_ok-push.ensures.listed list listed),
    )
