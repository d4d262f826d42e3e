use Rattle.stack_levels.specs.Tables.{layer_of}
use Rattle.stack_levels.proofs.Closing.{layer_at}
use Rattle.stack_levels.proofs.closure.Closure.is_said_kept.Goals as goal

pub returns-in-Some : goal.returns-in-Some
returns-in-Some g c told = (
  layer_of c.in-Some.under.now,
  layer_at c.args.self.now.table.now.levels.items c.args.level c.in-Some.under.now
      c.in-Some.ensures,
  told,
)
