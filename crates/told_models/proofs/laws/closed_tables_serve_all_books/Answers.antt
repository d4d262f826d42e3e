use Rattle.told_models.proofs.Agreeing.{closed_for_books}
use Rattle.told_models.proofs.laws.closed_tables_serve_all_books.Goals as goal

pub returns : goal.returns
returns c = closed_for_books
