use Rattle.level_refutations.proofs.Refuting.{closed_tables_have_no_order}
use Rattle.level_refutations.proofs.laws.closed_tables_have_no_order.Goals as goal

pub returns : goal.returns
returns c = closed_tables_have_no_order
