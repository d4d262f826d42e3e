use Rattle.std.proofs.Common.{ℕ, [], Option, None, replicate}
use Rattle.book_base.specs.Book.{Page}
use Rattle.history_books.proofs.Sweeping.{swept_start, swept_along}
use Rattle.history_books.proofs.sweep.Sweep.new.Goals as goal

pub returns-clause-swept : goal.returns-clause-swept
returns-clause-swept c =
    let page : Page = record { operations = []; records = [] } in
    let none : Option ℕ = None in
    λ calls. swept_along calls (replicate c.args.callers page) _ [] _
    (replicate c.args.callers none) _ c.in_ok-new.ensures c.new-2.ensures.items
    c.in_ok-no_pending.ensures (swept_start calls c.args.callers)
