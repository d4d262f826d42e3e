-- The items of a line: what is read byte by byte, and what is left at its end.
use Rattle.std.specs.Prelude.{ℕ, ◌+◌, Bool, List, [], ◌∷◌, ◌++◌, length, Option, Some, None, option_map, slice_range}
use Rattle.history_text.specs.declared.scan.Place.{Place}
use Rattle.history_text.specs.declared.scan.Place.TheVariants.{Between, Atom, Group, Text, Escaped}
use Rattle.history_text.specs.declared.scan.Step.{Step}
use Rattle.history_text.specs.declared.scan.Step.TheVariants.{Goes, Ends, Wrong}
use Rattle.history_text.specs.Scan.{sort_of, step_of}

-- the items at the end of a line, by the reader's place there: an atom ends with the line, and a
-- group or a text that isn't ended is wrong
abbrev pub last_items : List ℕ → Place → Option (List (List ℕ))
last_items line Between = Some []
last_items line (Atom start) = Some (slice_range line start (length line) ∷ [])
last_items line (Group start depth) = None
last_items line (Text start depth) = None
last_items line (Escaped start depth) = None

-- the items from a step on, where `from` has those from a place of the reader on
abbrev pub items_after : List ℕ → Step → (Place → Option (List (List ℕ)))
    → Option (List (List ℕ))
items_after line (Goes place) from = from place
items_after line (Ends start end) from =
    option_map (λ items. slice_range line start end ∷ items) (from Between)
items_after line Wrong from = None

-- the items of the bytes that are left of a line, from a place of the reader on; the next byte is
-- at the place `at` of the line
abbrev pub items_from : Bool → List ℕ → Place → ℕ → List ℕ → Option (List (List ℕ))
items_from json line place at [] = last_items line place
items_from json line place at (byte ∷ bytes) =
    items_after line (step_of place at (sort_of json byte))
    (λ next. items_from json line next (at + 1) bytes)

-- the items of a line, in their order; `None` where a bracket or a quote has no counterpart
abbrev pub items_of : Bool → List ℕ → Option (List (List ℕ))
items_of json line = items_from json line Between 0 line

-- the items so far, and further ones
abbrev pub with_more : {X : Type 0} → List X → Option (List X) → Option (List X)
with_more found more = option_map (λ rest. found ++ rest) more
