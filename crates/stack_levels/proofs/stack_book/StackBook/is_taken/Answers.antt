use Rattle.std.proofs.Common.{ℕ, List, replicate, sym, subst}
use Rattle.list_pruning.specs.HoldsLast.{IsRead}
use Rattle.stack_levels.proofs.Closing.{never_taken}
use Rattle.stack_levels.proofs.stack_book.StackBook.is_taken.Goals as goal

pub returns : goal.returns
returns g c untold =
    let reading = g.R.Reader.reading c.args.self.now.reader.now in
    let book = c.args.self.now.book.now in
    never_taken reading book c.callers.result c.args.value
    (λ (read : IsRead reading book (replicate c.callers.result 0) c.args.value).
    let told = c.is_read.ensures.1 (subst (λ (cut : List ℕ). IsRead reading book cut c.args.value)
    (sym c.zero-none.ensures) read) in
    absurd (cc (told, untold)))
