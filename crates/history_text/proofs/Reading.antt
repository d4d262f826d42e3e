-- The items that are read of a line so far, and those that are left.
use Rattle.std.proofs.Common.{◌≡◌, ℕ, ◌+◌, ◌<◌, Bool, List, [], ◌∷◌, ◌++◌, length, get_or, drop, Option, None, sym, ap, ◌∙◌, add-one, drop-cons}
use Rattle.std.specs.Prelude.{slice_range}
use Rattle.history_text.specs.declared.scan.Place.{Place}
use Rattle.history_text.specs.declared.scan.Place.TheVariants.{Between}
use Rattle.history_text.specs.declared.scan.Step.{Step}
use Rattle.history_text.specs.declared.scan.Step.TheVariants.{Goes, Ends, Wrong}
use Rattle.history_text.specs.Scan.{sort_of, step_of}
use Rattle.history_text.proofs.Stepping.{push_more}
use Rattle.history_text.specs.Items.{items_after, items_from, with_more}

-- reading on by one byte
reads : (json : Bool) (line : List ℕ) (place : Place) (at : ℕ) → at < length line
    → items_from json line place at (drop at line)
    ≡ items_after line (step_of place at (sort_of json (get_or line at 0)))
    (λ next. items_from json line next (at + 1) (drop (at + 1) line))
reads json line place at low =
    ap (items_from json line place at) (drop-cons line at 0 low)
    ∙ ap (λ (n : ℕ). items_after line (step_of place at (sort_of json (get_or line at 0)))
    (λ next. items_from json line next (at + 1) (drop n line))) (sym (add-one at))

-- the items from a step on, after a byte
steps : (json : Bool) (line : List ℕ) (place : Place) (at byte : ℕ) (step : Step)
    → at < length line → byte ≡ get_or line at 0 → step ≡ step_of place at (sort_of json byte)
    → items_after line step (λ next. items_from json line next (at + 1) (drop (at + 1) line))
    ≡ items_from json line place at (drop at line)
steps json line place at byte step low read is =
    ap (λ (s : Step). items_after line s
    (λ next. items_from json line next (at + 1) (drop (at + 1) line)))
    (is ∙ ap (λ (b : ℕ). step_of place at (sort_of json b)) read)
    ∙ sym (reads json line place at low)

pub goes_on : (json : Bool) (line : List ℕ) (place next : Place) (at byte : ℕ)
    (found : List (List ℕ)) (all : Option (List (List ℕ))) → at < length line
    → byte ≡ get_or line at 0 → Goes next ≡ step_of place at (sort_of json byte)
    → with_more found (items_from json line place at (drop at line)) ≡ all
    → with_more found (items_from json line next (at + 1) (drop (at + 1) line)) ≡ all
goes_on json line place next at byte found all low read is before =
    ap (with_more found) (steps json line place at byte (Goes next) low read is) ∙ before

pub ends_on : (json : Bool) (line : List ℕ) (place : Place) (start end at byte : ℕ)
    (found : List (List ℕ)) (all : Option (List (List ℕ))) → at < length line
    → byte ≡ get_or line at 0 → Ends start end ≡ step_of place at (sort_of json byte)
    → with_more found (items_from json line place at (drop at line)) ≡ all
    → with_more (found ++ (slice_range line start end) ∷ [])
    (items_from json line Between (at + 1) (drop (at + 1) line)) ≡ all
ends_on json line place start end at byte found all low read is before =
    push_more found (slice_range line start end)
    (items_from json line Between (at + 1) (drop (at + 1) line))
    ∙ (ap (with_more found) (steps json line place at byte (Ends start end) low read is) ∙ before)

pub is_wrong : (json : Bool) (line : List ℕ) (place : Place) (at byte : ℕ)
    (found : List (List ℕ)) (all : Option (List (List ℕ))) → at < length line
    → byte ≡ get_or line at 0 → Wrong ≡ step_of place at (sort_of json byte)
    → with_more found (items_from json line place at (drop at line)) ≡ all → None ≡ all
is_wrong json line place at byte found all low read is before =
    ap (with_more found) (steps json line place at byte Wrong low read is) ∙ before
