-- Runs of counters.
use Rattle.std.specs.Prelude.{◌≡◌, ℕ, true, List, ◌∷◌, ◌++◌, count_by}
use Rattle.seq_objects.specs.declared.kind.Kind.TheVariants.{Counter}
use Rattle.seq_objects.specs.Words.{inc}
use Rattle.seq_objects.specs.Replies.{reply_value}
use Rattle.broken_rules.specs.Runs.{IsRunOfKind, does}

-- In a run of a counter, the reply to an increment is the number of increments before it, modulo 2
-- ^ 32.
abbrev pub IncrementsAreCounted : Type 0
IncrementsAreCounted = (before rest : List (ℕ × ℕ)) (step : ℕ × ℕ)
    → IsRunOfKind Counter (before ++ step ∷ rest) → does inc step ≡ true
    → step.1 ≡ reply_value (count_by (does inc) before)
