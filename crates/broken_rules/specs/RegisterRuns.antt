-- Runs of registers.
use Rattle.std.specs.Prelude.{◌≡◌, ℕ, true, List, ◌∷◌, ◌++◌}
use Rattle.seq_objects.specs.declared.kind.Kind.TheVariants.{Register}
use Rattle.seq_objects.specs.Words as words
use Rattle.seq_objects.specs.Words.{argument_of}
use Rattle.seq_objects.specs.Replies.{reply_value}
use Rattle.broken_rules.specs.Runs.{IsRunOfKind, does, NonePass}

-- In a run of a register, the reply to a read is the value of the last write before it.
abbrev pub ReadsGiveTheLastWrite : Type 0
ReadsGiveTheLastWrite = (before between rest : List (ℕ × ℕ)) (write read : ℕ × ℕ)
    → IsRunOfKind Register (before ++ write ∷ (between ++ read ∷ rest))
    → does words.write write ≡ true → NonePass (does words.write) between
    → does words.read read ≡ true → read.1 ≡ reply_value (argument_of write.0)

-- In a run of a register, the reply to a read with no write before it is 0.
abbrev pub ReadsGiveZeroAtFirst : Type 0
ReadsGiveZeroAtFirst = (before rest : List (ℕ × ℕ)) (read : ℕ × ℕ)
    → IsRunOfKind Register (before ++ read ∷ rest)
    → NonePass (does words.write) before → does words.read read ≡ true → read.1 ≡ reply_value 0
