-- The lines of a source of bytes.
use Rattle.std.specs.Prelude.{◌≡◌, ◌≢◌, ℕ, ◌+◌, ◌<◌, ◌≤◌, ◌==◌, not, Bool, true, false, List, [], ◌∷◌, ◌++◌, length}
use Rattle.std.specs.List.{list_all, flat_map}
use Rattle.stream_text.specs.declared.TheConstants.{LINE_LIMIT}
use Rattle.stream_text.specs.declared.line_source.NextLine.{NextLine}
use Rattle.stream_text.specs.declared.line_source.NextLine.TheVariants.{Line, End, Cut, Long}

-- none of the bytes is a line feed
abbrev pub has_no_feed : List ℕ → Bool
has_no_feed bytes = list_all (λ byte. not (byte == 10)) bytes

-- the bytes of a line without its line feed: they have none, and aren't more than a line may have
pub record IsWholeLine (line : List ℕ) : Type 0 where
  pub feedless : has_no_feed line ≡ true
  pub short : length line ≤ LINE_LIMIT

-- the bytes of lines, each with its line feed
abbrev pub bytes_of : List (List ℕ) → List ℕ
bytes_of lines = flat_map (λ line. line ++ 10 ∷ []) lines

-- What the lines of a source see of it: the bytes that were read and are in no line so far, and the
-- line that was read last.
pub record Held : Type 0 where
  pub bytes : List ℕ
  pub line : List ℕ

-- Bytes begin with a part without a line feed, of at most `most` bytes where a line feed follows
-- it. Else the part has a byte, and either all bytes or one more than `most`.
abbrev pub IsPartOf : List ℕ → ℕ → Bool → List ℕ → List ℕ → Type 0
IsPartOf bytes most true part rest = (has_no_feed part ≡ true) × (length part ≤ most)
    × (bytes ≡ part ++ 10 ∷ rest)
IsPartOf bytes most false part rest = (has_no_feed part ≡ true) × (0 < length part)
    × (length part ≤ most + 1) × (length part ≤ most → rest ≡ []) × (bytes ≡ part ++ rest)

-- What comes next of bytes: a whole line and its line feed, after which bytes are held; no byte;
-- bytes of no whole line, and no more; or more bytes without a line feed than a line may have.
abbrev pub IsNextOf : List ℕ → NextLine → Held → Type 0
IsNextOf bytes Line held = IsWholeLine held.line × (bytes ≡ held.line ++ 10 ∷ held.bytes)
IsNextOf bytes End held = (bytes ≡ []) × (held.bytes ≡ [])
IsNextOf bytes Cut held = IsWholeLine held.line × (bytes ≢ []) × (bytes ≡ held.line)
    × (held.bytes ≡ [])
IsNextOf bytes Long held = (has_no_feed held.line ≡ true) × (LINE_LIMIT < length held.line)
    × (bytes ≡ held.line ++ held.bytes)

-- nothing is left after what comes next
abbrev pub IsLast : NextLine → Type 0
IsLast Line = ⊥
IsLast End = Unit {0}
IsLast Cut = Unit {0}
IsLast Long = ⊥
