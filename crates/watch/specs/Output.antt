-- The lines that the program writes.
use Rattle.std.specs.Prelude.{ℕ, ◌==◌, List, [], ◌∷◌, ◌++◌, codes, decimal, flat_map, if◌then◌else◌}

-- a second number after a space, where it is another one than the first
unfoldable pub second_number : ℕ → ℕ → List ℕ
second_number first last = if first == last then [] else codes " " ++ decimal last

-- the name of an object after a space and `@`, where it has one
unfoldable pub at_name : List ℕ → List ℕ
at_name [] = []
at_name (byte ∷ name) = codes " @" ++ byte ∷ name

-- the line of a word, of one number or two, and of the name of an object
unfoldable pub output_line : List ℕ → ℕ → ℕ → List ℕ → List ℕ
output_line word first last name =
    word ++ codes " " ++ decimal first ++ second_number first last ++ at_name name ++ codes "\n"

-- A line of the output. `Legal` has the number of the stream's lines so far, which are legal.
-- `Illegal` has the name of an object: up to the second number's line its calls have no legal
-- order, and up to the line before the first number's all objects are legal. `Unsure` has the name
-- of an object, and the line at which the limit was met.
pub data OutputLine : Type 0 where
  Legal : ℕ → OutputLine
  Illegal : ℕ → ℕ → List ℕ → OutputLine
  Unsure : ℕ → List ℕ → OutputLine

-- the bytes of a line of the output
abbrev pub text_of : OutputLine → List ℕ
text_of (Legal line) = output_line (codes "legal") line line []
text_of (Illegal first last name) = output_line (codes "illegal") first last name
text_of (Unsure line name) = output_line (codes "unsure") line line name

-- the bytes of an output
abbrev pub output_text : List OutputLine → List ℕ
output_text output = flat_map text_of output
