-- Operation words of the worked cases.
use Rattle.std.specs.Prelude.{ℕ, ◌+◌, ◌^◌}

-- the operation that joins a number
abbrev pub join : ℕ → ℕ
join number = 2 ^ 32 + number
