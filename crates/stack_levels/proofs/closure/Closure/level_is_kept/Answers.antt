use Rattle.std.proofs.Common.{ℕ, List, sym, subst}
use Rattle.stack_levels.specs.Levels.{IsOneLevel}
use Rattle.stack_levels.proofs.closure.Closure.level_is_kept.Goals as goal

pub returns : goal.returns
returns g c told kept = record {
  word = c.is_free.ensures c.if-not-is_free.false;
  below = λ p one. c.are_said_kept.ensures told p
      (subst (λ (xs : List ℕ). IsOneLevel xs p) (sym c.deref.ensures.value) one);
}
