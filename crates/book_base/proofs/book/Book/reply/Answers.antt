use Rattle.std.proofs.Common.{Option, IsSomeAnd, ◌≡◌, refl, sym, subst}
use Rattle.book_base.specs.declared.call.Record.{Record}
use Rattle.book_base.proofs.PageLemmas.{record_from_rows}
use Rattle.book_base.proofs.book.Book.reply.Goals as goal

pub returns : goal.returns
returns c =
    subst (λ (o : Option Record). IsSomeAnd o (λ r. c.index-2.result.now.reply ≡ r.reply))
    (sym (record_from_rows c.self.inside.rows.items c.args.self.now c.args.call c.index.result.now
    c.index-2.result.now c.self.view_is c.requires c.index.ensures c.index-2.ensures)) refl
