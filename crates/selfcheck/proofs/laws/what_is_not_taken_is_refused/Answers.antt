use Rattle.selfcheck.proofs.OutputLemmas.{refuse_what_is_not_taken}
use Rattle.selfcheck.proofs.laws.what_is_not_taken_is_refused.Goals as goal

pub returns : goal.returns
returns c = refuse_what_is_not_taken
