use Rattle.level_refutations.proofs.Faults.{closed_tables_fail_no_test}
use Rattle.level_refutations.proofs.laws.closed_tables_fail_no_test.Goals as goal

pub returns : goal.returns
returns c = closed_tables_fail_no_test
