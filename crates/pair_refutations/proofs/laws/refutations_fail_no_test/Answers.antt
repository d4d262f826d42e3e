use Rattle.pair_refutations.proofs.Faults.{refutations_fail_no_test}
use Rattle.pair_refutations.proofs.laws.refutations_fail_no_test.Goals as goal

pub returns : goal.returns
returns c = refutations_fail_no_test
