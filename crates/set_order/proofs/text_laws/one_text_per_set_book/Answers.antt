use Rattle.set_order.proofs.WrittenTexts as from
use Rattle.set_order.proofs.text_laws.one_text_per_set_book.Goals as goal

pub returns : goal.returns
returns c = from.one_text
