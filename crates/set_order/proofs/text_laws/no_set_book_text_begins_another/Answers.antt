use Rattle.set_order.proofs.SharpSetBooks as from
use Rattle.set_order.proofs.text_laws.no_set_book_text_begins_another.Goals as goal

pub returns : goal.returns
returns c = from.no_prefix
