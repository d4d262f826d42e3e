use Rattle.selfcheck.proofs.OutputLemmas.{Ends-plain}
use Rattle.selfcheck.proofs.top.selfcheck.Goals as goal

pub returns-clause-ends : goal.returns-clause-ends
returns-clause-ends g c =
    Ends-plain c.args.words.now _ _ _ _ _ _ _ c.selfcheck_watched.ensures.ends
