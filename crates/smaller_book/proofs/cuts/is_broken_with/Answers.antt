use Rattle.std.proofs.Common.{ℕ, List, subst}
use Rattle.book_base.specs.BookAt.{book_at}
use Rattle.book_base.specs.Order.{HasLegalOrder}
use Rattle.seq_objects.specs.Objects.{kind_spec}
use Rattle.smaller_book.proofs.LeastCuts.{illegal_with}
use Rattle.smaller_book.proofs.cuts.is_broken_with.Goals as goal

pub returns : goal.returns
returns c =
    let spec = kind_spec c.args.kind in
    let book = c.args.book.now in
    let none : List ℕ → Type 0 = λ cut. ¬ HasLegalOrder spec (book_at cut book) in
    λ is. illegal_with spec book c.args.cut.now c.args.caller c.args.count c.requires.cut
    c.requires.few (subst none c.with_count-tried.ensures (c.in_ok-found.ensures is))
