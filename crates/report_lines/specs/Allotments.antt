-- How many phases each caller is given, and how many of them it makes.
use Rattle.std.specs.Prelude.{◌≡◌, ℕ, ◌+◌, ◌*◌, ◌≤◌, min, ◌==◌, if◌then◌else◌, IsTrue, List, [], length, map, Option, Some, None, slice_get, slice_index, slice_index_or}
use Rattle.std.specs.List.{range_with_len, count_by}
use Rattle.report_lines.specs.declared.line.Line.{Line}
use Rattle.report_lines.specs.Lines.{lines_at, is_error, any_error}
use Rattle.report_lines.specs.Phases.{published_by}

-- How many phases a caller with this many calls is given: as many as its stop says, where it has a
-- stop, and otherwise five for each call.
abbrev pub phases_for : Option ℕ → ℕ → ℕ
phases_for None calls = 5 * calls
phases_for (Some stop) calls = stop

-- The operations of caller `i`; the empty list where there is no caller `i`.
abbrev pub operations_at : List (List ℕ) → ℕ → List ℕ
operations_at operations i = slice_index_or operations i []

-- After how many phases caller `i` stops; `None` where it has no stop, or where there is no caller
-- `i`.
abbrev pub stop_at : List (Option ℕ) → ℕ → Option ℕ
stop_at stops i = slice_index_or stops i None

-- How often a list of turns, each of which is the number of a caller, names caller `i`.
abbrev pub turns_of : List ℕ → ℕ → ℕ
turns_of turns i = count_by (λ turn. turn == i) turns

-- How many phases each caller is given where callers don't take turns: as many as its stop says,
-- where it has a stop, and otherwise five for each of its operations.
abbrev pub allotments_of : List (List ℕ) → List (Option ℕ) → List ℕ
allotments_of operations stops =
    map (λ i. phases_for (stop_at stops i) (length (operations_at operations i)))
    (range_with_len 0 (length operations))

-- How many phases each caller is given where callers take turns: one for each turn that names the
-- caller, but at most as many as it is given without turns.
abbrev pub allotments_by_turns : List (List ℕ) → List (Option ℕ) → List ℕ → List ℕ
allotments_by_turns operations stops turns =
    map (λ i. min (slice_index (allotments_of operations stops) i) (turns_of turns i))
    (range_with_len 0 (length operations))

-- How many phases a caller with the lines `own` has made: as many as its allotment says, or, where
-- one of its lines is an error, five for each line.
abbrev pub phases_of : ℕ → List Line → ℕ
phases_of allotment own = if any_error own then 5 * length own else allotment

-- A caller's lines keep to its allotment: the caller has made no more phases than its allotment
-- says, and no line follows an error line.
pub record KeepsTo (allotment : ℕ) (own : List Line) : Type 0 where
  pub within : phases_of allotment own ≤ allotment
  pub last : (k : ℕ) (line : Line) → slice_get own k ≡ Some line → IsTrue (is_error line)
      → k + 1 ≡ length own

-- How many records each caller has published with the phases that it made; its allotment and its
-- lines say how many phases these are.
abbrev pub published_in : List ℕ → List (List Line) → List ℕ
published_in allotments lines =
    map (λ i. published_by (phases_of (slice_index allotments i) (lines_at lines i)))
    (range_with_len 0 (length lines))
