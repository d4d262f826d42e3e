-- The bytes that a source has left and those that a sink has taken, where the source or the sink
-- tells them; where it doesn't, they are `None`.
use Rattle.std.specs.Prelude.{◌≡◌, ℕ, ◌+◌, ◌<◌, List, length, take, drop, Option, Some, None, Result, MatchResult, ⊤}
use Rattle.std.specs.Io.KnownBytes.{Appends}
use Rattle.byte_streams.specs.declared.TheConstants.{INPUT_LIMIT}

-- The bytes that are read of those that a source held: all of them, or one more than the limit.
abbrev pub read_of : List ℕ → List ℕ
read_of held = take (INPUT_LIMIT + 1) held

-- A source was read to its end, or until one byte more than the limit was read: `bytes` were read,
-- and `left` are the bytes left. Nothing is said of a source that doesn't tell its bytes.
abbrev pub HasRead : Option (List ℕ) → Option (List ℕ) → List ℕ → Type 0
HasRead None left bytes = ⊤
HasRead (Some held) left bytes = (bytes ≡ read_of held)
    × (left ≡ Some (drop (INPUT_LIMIT + 1) held))

-- A sink has taken the first bytes of a text, and not all of them.
abbrev pub AppendsPart : Option (List ℕ) → Option (List ℕ) → List ℕ → Type 0
AppendsPart old new text = (count : ℕ) × (count < length text) × Appends old new (take count text)

-- A write to a sink didn't succeed: it failed, or it took nothing of a piece that isn't empty.
abbrev pub IsRefusal : {E : Type 0} → Result ℕ E → List ℕ → Type 0
IsRefusal r piece = MatchResult r (λ count. (count ≡ 0) × (0 < length piece)) (λ _. ⊤)
