use Rattle.pair_refutations.proofs.Refuting.{refuted-none}
use Rattle.pair_refutations.proofs.laws.refuted_books_have_no_order.Goals as goal

pub returns : goal.returns
returns c = refuted-none
