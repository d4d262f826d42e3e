use Rattle.std.proofs.Common.{ℕ, Option, sym, subst}
use Rattle.std.proofs.lemmas.Bool.{not-true}
use Rattle.std.specs.Option.{IfSome}
use Rattle.legal_orders.specs.Calls.{IsNeverTaken}
use Rattle.stack_levels.proofs.closure.Closure.is_free.Goals as goal

pub returns-in-Some : goal.returns-in-Some
returns-in-Some g c told =
    subst (λ (o : Option ℕ). IfSome o (IsNeverTaken
    (g.R.Reader.reading c.args.self.now.on.now.reader.now) c.args.self.now.on.now.book.now))
    (sym c.in-Some.is)
    (c.is_taken.ensures (not-true c.is_taken.result told))
