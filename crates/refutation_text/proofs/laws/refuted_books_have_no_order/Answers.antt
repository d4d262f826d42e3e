use Rattle.refutation_text.proofs.OneVerdict.{refuted}
use Rattle.refutation_text.proofs.laws.refuted_books_have_no_order.Goals as goal

pub returns : goal.returns
returns c = refuted
