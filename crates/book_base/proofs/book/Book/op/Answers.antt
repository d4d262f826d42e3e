use Rattle.book_base.proofs.PageLemmas.{operation_from_rows}
use Rattle.book_base.proofs.book.Book.op.Goals as goal

pub returns : goal.returns
returns c =
    operation_from_rows c.self.inside.rows.items c.args.self.now c.args.call c.index.result.now
    c.index-2.result.now c.self.view_is c.requires c.index.ensures c.index-2.ensures
