use Rattle.refutations.proofs.Faults.{closed_lists_fail_no_test}
use Rattle.refutations.proofs.laws.closed_lists_fail_no_test.Goals as goal

pub returns : goal.returns
returns c = closed_lists_fail_no_test
