use Rattle.std.proofs.Common.{subst}
use Rattle.book_base.specs.Book.{IsValid}
use Rattle.book_base.proofs.PageLemmas.{record_from_rows}
use Rattle.book_base.proofs.book.Book.record.Goals as goal

pub returns-clause-record : goal.returns-clause-record
returns-clause-record c =
    record_from_rows c.self.inside.rows.items c.args.self.now c.args.call c.index.result.now
    c.index-2.result.now c.self.view_is c.requires c.index.ensures c.index-2.ensures

pub returns-clause-wide : goal.returns-clause-wide
returns-clause-wide c = (subst IsValid c.self.view_is c.self.invariant.0).wide c.args.call
    c.index-2.result.now (returns-clause-record c)
