use Rattle.stack_levels.proofs.Refuting.{closed_tables_have_no_order}
use Rattle.stack_levels.proofs.laws.closed_tables_have_no_order.Goals as goal

pub returns : goal.returns
returns c = closed_tables_have_no_order
