use Rattle.std.proofs.Common.{◌↔◌, Bool, IsTrue, sym, subst}
use Rattle.refutations.specs.Closed.{IsOneItem}
use Rattle.refutations.specs.Stored.{item_of}
use Rattle.refutations.proofs.Storing.{has-listed}
use Rattle.refutations.proofs.items.Items.has.Goals as goal

pub returns : goal.returns
returns c list listed =
    subst (λ (b : Bool). IsTrue b ↔ IsOneItem list (item_of c.args.item.now))
    (sym c.contains.ensures) (has-listed c.args.self.now list c.args.item.now listed)
