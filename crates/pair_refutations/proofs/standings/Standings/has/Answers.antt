use Rattle.std.proofs.Common.{◌↔◌, Bool, IsTrue, sym, subst}
use Rattle.queue_pairs.specs.NextEntries.{paired}
use Rattle.queue_refutation.specs.Closed.{IsOnePaired}
use Rattle.pair_refutations.specs.Tabled.{standings_of}
use Rattle.pair_refutations.proofs.Storing.{has-listed}
use Rattle.pair_refutations.proofs.standings.Standings.has.Goals as goal

pub returns : goal.returns
returns c =
    subst (λ (b : Bool). IsTrue b
    ↔ IsOnePaired (standings_of c.args.self.now) (paired c.args.standing.now))
    (sym c.contains.ensures) (has-listed c.args.self.now c.args.standing.now c.requires)
