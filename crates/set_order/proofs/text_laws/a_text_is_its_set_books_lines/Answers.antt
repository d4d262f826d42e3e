use Rattle.set_order.proofs.WrittenTexts as from
use Rattle.set_order.proofs.text_laws.a_text_is_its_set_books_lines.Goals as goal

pub returns : goal.returns
returns c = λ bytes book. (from.written_is_read bytes book, from.read_is_written bytes book)
