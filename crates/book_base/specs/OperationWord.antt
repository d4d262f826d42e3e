-- Operation words: numbers of 128 bits, each of two words of 64 bits.
use Rattle.std.specs.Prelude.{◌≡◌, ℕ, ◌+◌, ◌*◌, ◌/◌, ◌%◌, ◌^◌, ◌<◌}

-- A number is an operation word where it is below 2^128.
abbrev pub IsOperationWord : ℕ → Type 0
IsOperationWord op = op < 2 ^ 128

-- The low word of an operation word: its part below 2^64.
abbrev pub low_of : ℕ → ℕ
low_of op = op % 2 ^ 64

-- The high word of an operation word: its quotient by 2^64, rounded down.
abbrev pub high_of : ℕ → ℕ
high_of op = op / 2 ^ 64

-- The operation word of a low and a high word.
abbrev pub joined : ℕ → ℕ → ℕ
joined low high = low + high * 2 ^ 64

-- Joining a low and a high word below 2^64 gives an operation word with these two words, and each
-- operation word is joined from its own low and high word.
abbrev pub WordsAreJoinedAndParted : Type 0
WordsAreJoinedAndParted =
    ((low high : ℕ) → low < 2 ^ 64 → high < 2 ^ 64 → IsOperationWord (joined low high)
    × (low_of (joined low high) ≡ low) × (high_of (joined low high) ≡ high))
    × ((op : ℕ) → IsOperationWord op → (joined (low_of op) (high_of op) ≡ op) × (low_of op < 2 ^ 64)
    × (high_of op < 2 ^ 64))
