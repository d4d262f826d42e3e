use Rattle.std.proofs.Common.{ℕ, List, subst}
use Rattle.stack_levels.specs.Levels.{IsOneLevel}
use Rattle.stack_levels.specs.Tables.{layer_of}
use Rattle.stack_levels.proofs.Closing.{layer_at}
use Rattle.stack_levels.proofs.closure.Closure.lies_on.Goals as goal

pub returns : goal.returns
returns g c told = (
  layer_of c.in-Some.upper.now,
  layer_at c.args.self.now.table.now.levels.items c.args.above c.in-Some.upper.now
      c.in-Some.ensures,
  c.is_last.ensures c.if-not-is_last.false,
  subst (λ (xs : List ℕ). IsOneLevel xs c.args.level) c.deref.ensures.value
      (c.is_among.ensures told),
)
