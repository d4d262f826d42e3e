-- The fields of a line.
use Rattle.std.specs.Prelude.{ℕ, ◌-◌, ◌==◌, ◌&&◌, not, Bool, true, false, if◌then◌else◌, List, [], ◌∷◌, ◌++◌, length, drop, take, Option, Some, None, option_map, option_and_then}
use Rattle.std.specs.Char.{is_ascii_whitespace}
use Rattle.std.specs.List.{prefix_len, suffix_len}
use Rattle.history_text.specs.declared.format.Format.{Format}
use Rattle.history_text.specs.declared.format.Format.TheVariants.{Edn, Json, Csv}
use Rattle.history_text.specs.Words.{plain_of, in_braces_of}
use Rattle.history_text.specs.Items.{items_of}
use Rattle.history_text.specs.Layout.{FieldText}

-- bytes without the white space at their end
abbrev pub without_end : List ℕ → List ℕ
without_end bytes = take (length bytes - suffix_len is_ascii_whitespace bytes) bytes

-- bytes without the white space at both ends
abbrev pub trimmed_of : List ℕ → List ℕ
trimmed_of bytes = without_end (drop (prefix_len is_ascii_whitespace bytes) bytes)

-- items as names and values in turn, where a name may wait for its value
abbrev pub fields_from : Option (List ℕ) → List (List ℕ) → Option (List FieldText)
fields_from None [] = Some []
fields_from (Some name) [] = None
fields_from None (item ∷ items) = fields_from (Some item) items
fields_from (Some name) (item ∷ items) =
    option_map (λ fields. record { name = plain_of name; value = item } ∷ fields)
    (fields_from None items)

-- the fields of a line that is one map of EDN or one object of JSON; `None` where it is neither
abbrev pub fields_in_map : Bool → List ℕ → Option (List FieldText)
fields_in_map json line =
    option_and_then (λ inside. option_and_then (fields_from None) (items_of json inside))
    (in_braces_of (trimmed_of line))

-- the cells of a row from a byte on: whether it is in quotes, and the bytes of its cell so far. A
-- comma ends a cell where it isn't between quotes
abbrev pub cells_from : Bool → List ℕ → List ℕ → Option (List (List ℕ))
cells_from true cell [] = None
cells_from false cell [] = Some (trimmed_of cell ∷ [])
cells_from quoted cell (byte ∷ bytes) =
    if byte == 34 then cells_from (not quoted) (cell ++ byte ∷ []) bytes
    else (if (byte == 44) && not quoted
    then option_map (λ cells. trimmed_of cell ∷ cells) (cells_from false [] bytes)
    else cells_from quoted (cell ++ byte ∷ []) bytes)

-- the cells of a row of CSV, in their order; `None` where a quote has no counterpart
abbrev pub cells_of : List ℕ → Option (List (List ℕ))
cells_of line = cells_from false [] line

-- the fields of as many cells as there are names
abbrev pub fields_named : List (List ℕ) → List (List ℕ) → Option (List FieldText)
fields_named [] [] = Some []
fields_named [] (cell ∷ cells) = None
fields_named (name ∷ names) [] = None
fields_named (name ∷ names) (cell ∷ cells) =
    option_map (λ fields. record { name = plain_of name; value = cell } ∷ fields)
    (fields_named names cells)

-- the fields of a line in a format, where a CSV has columns of these names; `None` where it has no
-- fields
abbrev pub fields_of : Format → List (List ℕ) → List ℕ → Option (List FieldText)
fields_of Edn names line = fields_in_map false line
fields_of Json names line = fields_in_map true line
fields_of Csv names line = option_and_then (fields_named names) (cells_of line)
