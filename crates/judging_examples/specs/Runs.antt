-- Runs that are worked by hand.
use Rattle.std.specs.Prelude.{ℕ}
use Rattle.seq_objects.specs.Words.{OperationEntry, word_of}

-- The operation word of an entry with the argument `argument`, which has to be 0 where the entry
-- has no argument.
abbrev pub operation : OperationEntry → ℕ → ℕ
operation entry argument = word_of entry.code argument 0
