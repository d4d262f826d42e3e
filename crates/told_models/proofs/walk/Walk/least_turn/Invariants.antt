use Rattle.std.proofs.Common.{ℕ, ◌<◌, IfSome, IfNone}
use Rattle.search_hints.specs.Marks.{IsMarked}
use Rattle.told_models.proofs.walk.Walk.least_turn.Given as goal

abbrev pub invariant-loop-caller : goal.invariant-loop-caller
invariant-loop-caller l = IfSome l.best (IsMarked l.among)
    × IfNone l.best ((i : ℕ) → i < l.caller → IsMarked l.among i → ⊥)
