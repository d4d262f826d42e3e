use Rattle.std.proofs.Common.{◌≡◌, Option, Some, IsSomeAnd, refl, sym, subst}
use Rattle.book_base.specs.declared.call.Record.{Record}
use Rattle.book_base.specs.Book.{IsValid, record_of}
use Rattle.book_base.proofs.PageLemmas.{record_from_rows}
use Rattle.book_base.proofs.book.Book.view.Goals as goal

known : (c : goal.After-index-2) → record_of c.args.self.now c.args.call ≡ Some c.index-2.result.now
known c = record_from_rows c.self.inside.rows.items c.args.self.now c.args.call c.index.result.now
    c.index-2.result.now c.self.view_is c.requires c.index.ensures c.index-2.ensures

pub returns-clause-view : goal.returns-clause-view
returns-clause-view c =
    subst (λ (o : Option Record). IsSomeAnd o (λ r. c.index-2.result.now.view ≡ r.view))
    (sym (known c)) refl

pub returns-clause-wide : goal.returns-clause-wide
returns-clause-wide c = (subst IsValid c.self.view_is c.self.invariant.0).wide c.args.call
    c.index-2.result.now (known c)
