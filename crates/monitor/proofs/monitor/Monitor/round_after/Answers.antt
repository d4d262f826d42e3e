use Rattle.std.proofs.Common.{◌≡◌, Some, IfSome, sym, subst, Option}
use Rattle.monitor.specs.declared.claim.Claim.{Claim}
use Rattle.monitor.specs.declared.witness.Witness.{Witness}
use Rattle.monitor.specs.Claims.{own_in, known_in, KnowsOrLacked}
use Rattle.monitor.proofs.monitor.Monitor.round_after.Goals as goal

knows_on : (before old new : Claim) (w : Witness) → old ≡ before → own_in new ≡ Some w
    → KnowsOrLacked (known_in old) (known_in new)
    → IfSome (own_in new) (λ _. KnowsOrLacked (known_in before) (known_in new))
knows_on before old new w same own knows =
    subst (λ (o : Option Witness). IfSome o (λ _. KnowsOrLacked (known_in before) (known_in new))) (sym own)
    (subst (λ (claim : Claim). KnowsOrLacked (known_in claim) (known_in new)) same knows)

pub returns-in-None-clause-known : goal.returns-in-None-clause-known
returns-in-None-clause-known g c =
    knows_on c.args.self.now.claim c.look.new.self.claim c.keep.new.self _ c.look.ensures.claim
    c.keep.ensures.own c.keep.ensures.known
