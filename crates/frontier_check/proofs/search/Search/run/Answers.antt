use Rattle.std.proofs.Common.{ℕ, sym, subst}
use Rattle.frontier_check.specs.Prefix.{IsBookCapacity}
use Rattle.frontier_check.proofs.search.Search.run.Goals as goal

pub go_on-requires-clause-room : goal.go_on-requires-clause-room
go_on-requires-clause-room g c =
    subst (λ (n : ℕ). IsBookCapacity (g.S.SeqObject.spec c.args.self.now.object.now) n)
    (sym c.begin.ensures.room) c.in_ok-spare.ensures
