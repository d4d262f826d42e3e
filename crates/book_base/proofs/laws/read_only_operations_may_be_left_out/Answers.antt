use Rattle.book_base.proofs.ReachingLemmas.{read_only_may_be_left_out}
use Rattle.book_base.proofs.laws.read_only_operations_may_be_left_out.Goals as goal

pub returns : goal.returns
returns c = read_only_may_be_left_out
