-- How many operations wait in a machine that keeps for each caller the operation that waits, where
-- one does.
use Rattle.std.specs.Prelude.{ℕ, List, Option, Some, None}
use Rattle.std.specs.List.{sum_by}

-- How many operations of one caller wait: one or none.
abbrev pub waits : Option ℕ → ℕ
waits None = 0
waits (Some op) = 1

-- How many operations of all callers wait.
abbrev pub waiting_count : List (Option ℕ) → ℕ
waiting_count all = sum_by waits all
