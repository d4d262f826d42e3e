use Rattle.stack_levels.proofs.closure.Closure.has.Goals as goal

pub returns-in-Some : goal.returns-in-Some
returns-in-Some g c told = c.has_at.ensures told
