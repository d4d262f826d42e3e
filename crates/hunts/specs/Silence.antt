-- A counting pass tells no list of its calls.
use Rattle.std.proofs.Common.{◌≡◌, ℕ, List, None, Some, length}
use Rattle.std.proofs.lemmas.Option.{none-some}
use Rattle.hunts.specs.declared.counting_pass.CountingPass.{CountingPass}
use Rattle.hunts.specs.Passes.{made_with}

-- A counting pass tells no list, so each list that it tells has as many pairs as calls were made.
pub tells_none : {S : Type 0} (object : S) (pass : CountingPass) (pairs : List (ℕ × ℕ)) → Unit {0}
    → None ≡ Some pairs → length pairs ≡ made_with pass
tells_none object pass pairs own told = absurd (none-some pairs told)
