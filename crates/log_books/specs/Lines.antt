-- The lines that stand before the book of a key: its name, the names of its values, and the lines of
-- its calls.
use Rattle.std.specs.Prelude.{ℕ, ◌+◌, List, [], ◌∷◌, ◌++◌, Option, None, Some, codes, decimal}
use Rattle.book_base.specs.declared.call.Call.{Call}
use Rattle.log_books.specs.declared.key_calls.LinedCall.{LinedCall}

-- the line of a key
abbrev pub key_line : Option (List ℕ) → List ℕ
key_line None = codes "key\n"
key_line (Some key) = codes "key " ++ key ++ codes "\n"

-- a name after a space; nothing for a name of no bytes
abbrev pub after_space : List ℕ → List ℕ
after_space [] = []
after_space (byte ∷ bytes) = codes " " ++ byte ∷ bytes

-- a number after a space
abbrev pub spaced : ℕ → List ℕ
spaced n = codes " " ++ decimal n

-- the line of a value's number and name
abbrev pub name_line : ℕ → List ℕ → List ℕ
name_line n name = codes "name" ++ spaced n ++ after_space name ++ codes "\n"

-- the lines of values, numbered from `n` on
abbrev pub names_text : ℕ → List (List ℕ) → List ℕ
names_text n [] = []
names_text n (name ∷ names) = name_line n name ++ names_text (n + 1) names

-- the line of a call's answer after a space, where it has one
abbrev pub end_text : Option ℕ → List ℕ
end_text None = []
end_text (Some line) = spaced line

-- the line of a call: its caller and its number in the book, and its lines in the log
abbrev pub call_line : LinedCall → Call → List ℕ
call_line made name = codes "call" ++ spaced name.caller ++ spaced name.number ++ spaced made.line
    ++ end_text made.end ++ codes "\n"

-- the lines of calls, each with its name in the book
abbrev pub calls_text : List LinedCall → List Call → List ℕ
calls_text [] names = []
calls_text (made ∷ calls) [] = []
calls_text (made ∷ calls) (name ∷ names) = call_line made name ++ calls_text calls names
