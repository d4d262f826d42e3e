use Rattle.std.proofs.Common.{◌↔◌, Bool, IsTrue, sym, subst}
use Rattle.level_refutations.specs.Stored.{IsKey}
use Rattle.level_refutations.proofs.Sets.{contained}
use Rattle.level_refutations.proofs.Knowing.{is_same_key, same_key, key_alike}
use Rattle.level_refutations.proofs.nodes.is_known.Goals as goal

pub returns : goal.returns
returns c = subst (λ (b : Bool). IsTrue b ↔ IsKey c.args.known.now.keys c.args.key.now)
    (sym c.contains.ensures)
    (contained is_same_key same_key key_alike c.args.known.now.keys c.args.key.now)
