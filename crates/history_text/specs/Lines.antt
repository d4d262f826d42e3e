-- The lines of a text.
use Rattle.std.specs.Prelude.{ℕ, ◌+◌, ◌==◌, ◌||◌, Bool, if◌then◌else◌, List, [], ◌∷◌, ◌++◌}
use Rattle.std.specs.List.{list_all}

-- A line, with its number, counted from 1, and its bytes without the line feed.
pub record Line : Type 0 where
  pub number : ℕ
  pub bytes : List ℕ

-- whether a byte is a space, a tab or a carriage return
abbrev pub is_blank : ℕ → Bool
is_blank byte = (byte == 32) || (byte == 9) || (byte == 13)

-- further lines after a line, which is left out where it is blank
abbrev pub line_and : ℕ → List ℕ → List Line → List Line
line_and number line lines =
    if list_all is_blank line then lines else record { number = number; bytes = line } ∷ lines

-- the lines from a byte on, where the line of this number has these bytes before it
abbrev pub lines_from : ℕ → List ℕ → List ℕ → List Line
lines_from number line [] = line_and number line []
lines_from number line (byte ∷ bytes) =
    if byte == 10 then line_and number line (lines_from (number + 1) [] bytes)
    else lines_from number (line ++ byte ∷ []) bytes

-- the lines of a text that aren't blank
abbrev pub lines_of : List ℕ → List Line
lines_of bytes = lines_from 1 [] bytes
