use Rattle.book_text.proofs.Prefixes.{written_is_one}
use Rattle.book_text.proofs.writer_laws.written_books_are_one.Goals as goal

pub returns : goal.returns
returns c = written_is_one
