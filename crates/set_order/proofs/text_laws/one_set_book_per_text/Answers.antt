use Rattle.set_order.proofs.SharpSetBooks as from
use Rattle.set_order.proofs.text_laws.one_set_book_per_text.Goals as goal

pub returns : goal.returns
returns c = from.one_book
