use Rattle.book_text.proofs.ReadTexts.{read_is_written}
use Rattle.book_text.proofs.WrittenTexts.{written_is_read}
use Rattle.book_text.proofs.laws.a_text_is_its_books_lines.Goals as goal

pub returns : goal.returns
returns c = λ version bytes kind book.
    (written_is_read version bytes kind book, read_is_written version bytes kind book)
