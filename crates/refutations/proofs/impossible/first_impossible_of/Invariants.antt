use Rattle.std.proofs.Common.{ℕ, ◌<◌}
use Rattle.seq_objects.specs.Objects.{kind_spec}
use Rattle.refutations.specs.Impossible.{IsImpossible}
use Rattle.refutations.proofs.impossible.first_impossible_of.Given as goal

abbrev pub invariant-loop-number : goal.invariant-loop-number
invariant-loop-number l = (k : ℕ) → k < l.number
    → IsImpossible (kind_spec l.kind) l.book (record { caller = l.caller; number = k }) → ⊥
