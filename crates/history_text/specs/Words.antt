-- Items as words and lists.
use Rattle.std.specs.Prelude.{ℕ, ◌-◌, ◌==◌, ◌&&◌, ◌||◌, nat_le, Bool, if◌then◌else◌, List, length, drop, Option, Some, None, unwrap_or, slice_index, slice_range, bytes_eq, codes}

-- what is between the first and the last byte of an item that begins with one byte and ends with
-- another
abbrev pub inside_of : ℕ → ℕ → List ℕ → Option (List ℕ)
inside_of first last item =
    if nat_le 2 (length item) && (slice_index item 0 == first)
    && (slice_index item (length item - 1) == last)
    then Some (slice_range item 1 (length item - 1)) else None

-- the one, or where it is missing the other
abbrev pub or_else : Option (List ℕ) → Option (List ℕ) → Option (List ℕ)
or_else None other = other
or_else (Some one) other = Some one

-- what is in the braces of an item that is one map
abbrev pub in_braces_of : List ℕ → Option (List ℕ)
in_braces_of item = inside_of 123 125 item

-- what is in the brackets or parentheses of an item that is one list
abbrev pub in_brackets_of : List ℕ → Option (List ℕ)
in_brackets_of item = or_else (inside_of 91 93 item) (inside_of 40 41 item)

-- an item as a plain word: a keyword without its colon, a text without its quotes, and anything else
-- as it is
abbrev pub plain_of : List ℕ → List ℕ
plain_of item = if slice_index item 0 == 58 then drop 1 item else unwrap_or (inside_of 34 34 item) item

-- whether an item says that there is nothing: it is empty, `nil`, `null` or an empty text
abbrev pub says_nothing : List ℕ → Bool
says_nothing item = (length item == 0) || bytes_eq item (codes "nil") || bytes_eq item (codes "null")
    || bytes_eq item (codes "\"\"")

-- whether a process is no client: it is a keyword, or named `nemesis`
abbrev pub is_no_client : List ℕ → Bool
is_no_client process = (slice_index process 0 == 58) || bytes_eq (plain_of process) (codes "nemesis")
