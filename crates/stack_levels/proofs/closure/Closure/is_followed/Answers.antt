use Rattle.std.proofs.Common.{inl, inr}
use Rattle.stack_levels.proofs.closure.Closure.is_followed.Goals as goal

pub returns-then-shows_another : goal.returns-then-shows_another
returns-then-shows_another g c told = inl (c.shows_another.ensures c.if-shows_another.true)

pub returns-then-leaves_top : goal.returns-then-leaves_top
returns-then-leaves_top g c told = inr (inl (c.leaves_top.ensures c.if-leaves_top.true))

pub returns-then-leads : goal.returns-then-leads
returns-then-leads g c told = inr (inr (inl (c.leads.ensures c.if-leads.true)))

pub returns : goal.returns
returns g c told = inr (inr (inr (c.is_served.ensures told)))
