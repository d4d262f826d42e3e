-- The lines of a text, and the words of a line.
use Rattle.std.specs.Prelude.{ℕ, ◌+◌, ◌<◌, ◌==◌, List, [], ◌∷◌, ◌++◌, take, drop, length, All, Option, Some, None, option_map, position, Result, Ok, Err}
use Rattle.std.specs.List.{slice_split, flat_map, join_with_byte, AllByRecursion}
use Rattle.book_base.specs.declared.fault.TextFault.{TextFault}
use Rattle.book_base.specs.declared.fault.What.TheVariants.{Cut}

-- a line: its words, with exactly one space between two, ended by one line feed
abbrev pub line_text : List (List ℕ) → List ℕ
line_text words = join_with_byte 32 words ++ 10 ∷ []

-- the bytes of a text: those of its lines, one after another
abbrev pub text_of : List (List (List ℕ)) → List ℕ
text_of lines = flat_map line_text lines

-- A word that can stand in a line: it isn't empty, and each of its bytes is above the space.
pub record IsSolid (word : List ℕ) : Type 0 where
  pub some : 0 < length word
  pub above : All (λ byte. 32 < byte) word

-- words that can stand in a line: at least one, none empty, none with a byte at or below the space
pub record AreSolid (words : List (List ℕ)) : Type 0 where
  pub some : 0 < length words
  pub each : AllByRecursion IsSolid words

-- what is left of a text: its bytes, and the number of the line that they begin with, counted from
-- 1
pub record Unread : Type 0 where
  pub bytes : List ℕ
  pub number : ℕ

-- Bytes cut at the first place of a given byte: the bytes before it and the bytes after it; `None`
-- where the byte isn't among them.
abbrev pub cut_at : ℕ → List ℕ → Option (List ℕ × List ℕ)
cut_at byte bytes =
    option_map (λ i. (take i bytes, drop (i + 1) bytes)) (position (λ b. b == byte) bytes)

-- From two parts of bytes that were cut at a line feed: the line, and what is left of the text,
-- which begins with the next line number. Where there are no parts, the fault `Cut` at this number.
abbrev pub line_from : ℕ → Option (List ℕ × List ℕ) → Result (List ℕ × Unread) TextFault
line_from number None = Err (record { line = number; what = Cut })
line_from number (Some parts) = Ok (parts.0, record { bytes = parts.1; number = number + 1 })

-- The next line of a text: the bytes before the first line feed. Where no line feed is left, the
-- fault is `Cut`.
abbrev pub line_at : Unread → Result (List ℕ × Unread) TextFault
line_at text = line_from text.number (cut_at 10 text.bytes)

-- the words of a line: the parts into which each of its spaces cuts it
abbrev pub words_of : List ℕ → List (List ℕ)
words_of line = slice_split (λ b. b == 32) line

-- Everything that `write` gives for the items of a list, one after another: it gets each item with
-- the item's number, counted from `i`.
abbrev pub by_number : {X Y : Type 0} → (ℕ → X → List Y) → ℕ → List X → List Y
by_number write i [] = []
by_number write i (x ∷ xs) = write i x ++ by_number write (i + 1) xs
