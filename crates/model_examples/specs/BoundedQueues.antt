-- A bounded queue, which refuses what finds it full.
use Rattle.std.specs.Prelude.{ℕ, ◌==◌, nat_lt, if◌then◌else◌, List, [], ◌∷◌, ◌++◌, length, drop, slice_index}
use Rattle.book_base.specs.OperationWord.{low_of}

-- the values after a take, and the first of them, or 0 where there is none
abbrev pub taken : List ℕ → List ℕ × ℕ
taken held = (drop 1 held, slice_index held 0)

-- the values after a put, and 1, or 0 where all places are taken
abbrev pub put : ℕ → List ℕ → ℕ → List ℕ × ℕ
put places held value =
    if nat_lt (length held) places then (held ++ value ∷ [], 1) else (held, 0)

-- The values after an operation, and its reply: the word 0 takes the first value, and each other
-- word puts its low word in at the end.
abbrev pub queue_step : ℕ → List ℕ → ℕ → List ℕ × ℕ
queue_step places held op = if op == 0 then taken held else put places held (low_of op)
