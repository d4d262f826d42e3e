-- The items of a line, byte by byte.
use Rattle.std.specs.Prelude.{ℕ, ◌+◌, ◌-◌, ◌≤◌, ◌==◌, ◌||◌, ◌&&◌, nat_le, Bool, if◌then◌else◌}
use Rattle.history_text.specs.declared.scan.Sort.{Sort}
use Rattle.history_text.specs.declared.scan.Sort.TheVariants.{Gap, Opens, Closes, Quote, Escape, Plain}
use Rattle.history_text.specs.declared.scan.Place.{Place}
use Rattle.history_text.specs.declared.scan.Place.TheVariants.{Between, Atom, Group, Text, Escaped}
use Rattle.history_text.specs.declared.scan.Step.{Step}
use Rattle.history_text.specs.declared.scan.Step.TheVariants.{Goes, Ends, Wrong}

-- whether a byte separates items: a tab, a carriage return, a space or a comma; in JSON a colon too
abbrev pub is_gap : Bool → ℕ → Bool
is_gap json byte =
    (byte == 32) || (byte == 9) || (byte == 13) || (byte == 44) || (json && (byte == 58))

-- whether a byte begins a group: a brace, a bracket or a parenthesis
abbrev pub opens : ℕ → Bool
opens byte = (byte == 123) || (byte == 91) || (byte == 40)

-- whether a byte ends a group
abbrev pub closes : ℕ → Bool
closes byte = (byte == 125) || (byte == 93) || (byte == 41)

-- what a byte is to the reader of items
abbrev pub sort_of : Bool → ℕ → Sort
sort_of json byte =
    if is_gap json byte then Gap
    else (if opens byte then Opens
    else (if closes byte then Closes
    else (if byte == 34 then Quote
    else (if byte == 92 then Escape else Plain))))

-- the reader's place is one that it may have before the byte at a place of the line
abbrev pub IsPlaceBefore : ℕ → Place → Type 0
IsPlaceBefore at Between = Unit {0}
IsPlaceBefore at (Atom start) = start ≤ at
IsPlaceBefore at (Group start depth) = (start ≤ at) × (depth ≤ at)
IsPlaceBefore at (Text start depth) = (start ≤ at) × (depth ≤ at)
IsPlaceBefore at (Escaped start depth) = (start ≤ at) × (depth ≤ at)

-- after the byte at a place of the line, the reader's place is one that it may have before the next
-- byte, or an item has ended within the line so far
abbrev pub IsStepWithin : ℕ → Step → Type 0
IsStepWithin at (Goes place) = IsPlaceBefore (at + 1) place
IsStepWithin at (Ends start end) = (start ≤ end) × (end ≤ at + 1)
IsStepWithin at Wrong = Unit {0}

-- what a byte of a sort leads to, at a place of the line: in a gap between items nothing changes; a
-- bracket or a quote amid an atom begins a group or a text that is part of the same item; a group
-- ends with its last bracket, and a text with a quote that no escape comes before
abbrev pub step_of : Place → ℕ → Sort → Step
step_of Between at Gap = Goes Between
step_of Between at Opens = Goes (Group at 1)
step_of Between at Closes = Wrong
step_of Between at Quote = Goes (Text at 0)
step_of Between at Escape = Goes (Atom at)
step_of Between at Plain = Goes (Atom at)
step_of (Atom start) at Gap = Ends start at
step_of (Atom start) at Opens = Goes (Group start 1)
step_of (Atom start) at Closes = Wrong
step_of (Atom start) at Quote = Goes (Text start 0)
step_of (Atom start) at Escape = Goes (Atom start)
step_of (Atom start) at Plain = Goes (Atom start)
step_of (Group start depth) at Gap = Goes (Group start depth)
step_of (Group start depth) at Opens = Goes (Group start (depth + 1))
step_of (Group start depth) at Closes =
    if nat_le depth 1 then Ends start (at + 1) else Goes (Group start (depth - 1))
step_of (Group start depth) at Quote = Goes (Text start depth)
step_of (Group start depth) at Escape = Goes (Group start depth)
step_of (Group start depth) at Plain = Goes (Group start depth)
step_of (Text start depth) at Gap = Goes (Text start depth)
step_of (Text start depth) at Opens = Goes (Text start depth)
step_of (Text start depth) at Closes = Goes (Text start depth)
step_of (Text start depth) at Quote =
    if depth == 0 then Ends start (at + 1) else Goes (Group start depth)
step_of (Text start depth) at Escape = Goes (Escaped start depth)
step_of (Text start depth) at Plain = Goes (Text start depth)
step_of (Escaped start depth) at sort = Goes (Text start depth)
