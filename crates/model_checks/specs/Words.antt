-- The words of a model's operations and replies, by the numbers that a program gives to them.
use Rattle.std.specs.Prelude.{◌≡◌, ℕ, ◌^◌, ◌<◌}
use Rattle.seq_objects.specs.Words.{word_of}

-- The operation word of a number: the code 1 with the number as its argument.
abbrev pub operation_word : ℕ → ℕ
operation_word number = word_of 1 number 0

-- An operation word is that of a number below 2 ^ 32.
abbrev pub IsNumbered : ℕ → Type 0
IsNumbered op = (number : ℕ) × (number < 2 ^ 32) × (op ≡ operation_word number)
