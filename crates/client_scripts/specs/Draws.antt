-- Draws by number (Widynski 2020, Squares: a fast counter-based random number generator).
use Rattle.std.specs.Prelude.{ℕ, ◌+◌, ◌*◌, ◌/◌, ◌%◌, ◌^◌}

-- The key under which the draws of a seed are made: the seed times one constant, plus another one,
-- modulo 2^64.
abbrev pub key_of : ℕ → ℕ
key_of seed = (((seed * 11400714819323198485) % 2 ^ 64) + 15111065706836454659) % 2 ^ 64

-- A word of 64 bits with its two halves exchanged.
abbrev pub turned : ℕ → ℕ
turned word = (word % 2 ^ 32) * 2 ^ 32 + word / 2 ^ 32

-- The square of a word plus a second word, modulo 2^64.
abbrev pub squared : ℕ → ℕ → ℕ
squared word more = (((word * word) % 2 ^ 64) + more) % 2 ^ 64

-- Four rounds from a first word on: they square a word, and add the first word, the second, the
-- first and the second in turn. After each of the first three the halves of the word are exchanged;
-- the result is the upper half of the last.
abbrev pub four_rounds : ℕ → ℕ → ℕ
four_rounds first second =
    squared (turned (squared (turned (squared (turned (squared first first)) second)) first))
    second / 2 ^ 32

-- The draw with this number under a key: 32 bits.
abbrev pub drawn : ℕ → ℕ → ℕ
drawn key number = let first = (key * number) % 2 ^ 64 in four_rounds first ((first + key) % 2 ^ 64)
