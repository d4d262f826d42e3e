-- What a reader keeps of the lines that it has read so far: a draft.
use Rattle.std.specs.Prelude.{◌≡◌, ◌⊎◌, ℕ, ◌+◌, ◌≤◌, List, length, take, sum, min, max, slice_index, slice_set}
use Rattle.book_base.specs.declared.call.Call.{Call}
use Rattle.book_base.specs.Cut.{Holds, IsWithin}
use Rattle.report_lines.specs.declared.line.LineEnd.{LineEnd}
use Rattle.report_lines.specs.declared.line.LineEnd.TheVariants.{Pending, Unchecked, Delivered, Error}
use Rattle.report_lines.specs.declared.line.Line.{Line}
use Rattle.client_scripts.specs.ScriptRules.{grouped}
use Rattle.report_text.specs.declared.draft.Draft.{Draft}
use Rattle.report_text.specs.ReportRules.{book_so_far, IsPendingAt, IsSeenBefore}

-- The number of lines read so far (`told`) is that of all calls of the callers before caller i, and
-- k more; `counts` has each caller's number of calls.
abbrev pub StandBefore : List ℕ → List Line → ℕ → ℕ → Type 0
StandBefore counts told i k = length told ≡ sum (take i counts) + k

-- The limits of seen cuts after these lines, for callers with the numbers of calls `counts`: for
-- each caller the number of its first call with a pending line, or, where it has none, the number
-- of its calls.
pub record AreLimits (counts : List ℕ) (lines : List (List Line)) (limits : List ℕ) : Type 0 where
  pub wide : length limits ≡ length counts
  pub within : (j : ℕ) → slice_index limits j ≤ slice_index counts j
  pub pending : (call : Call) → IsPendingAt lines call
      → slice_index limits call.caller ≤ call.number
  pub reached : (j : ℕ) → (slice_index limits j ≡ slice_index counts j)
      ⊎ IsPendingAt lines (record { caller = j; number = slice_index limits j })

-- The greatest counts of the seen cuts of these lines of n callers: a cut that holds exactly the
-- calls that the seen cut of some line holds.
pub record AreSeenCounts (n : ℕ) (lines : List (List Line)) (seen : List ℕ) : Type 0 where
  pub wide : length seen ≡ n
  pub holds : (call : Call) → IsSeenBefore lines call → Holds seen call
  pub held : (call : Call) → Holds seen call → IsSeenBefore lines call

-- The draft is that of the lines `told`, which are in one list by caller and number: its book, its
-- limits of seen cuts and its greatest counts of seen cuts are those of these lines.
pub record IsDraft (counts : List ℕ) (told : List Line) (draft : Draft) : Type 0 where
  pub book : draft.book ≡ book_so_far counts told
  pub limits : AreLimits counts (grouped counts told) draft.limits
  pub seen : AreSeenCounts (length counts) (grouped counts told) draft.seen

-- The cuts of the draft have a count for each caller of its book.
pub record IsWide (draft : Draft) : Type 0 where
  pub limits : length draft.limits ≡ length draft.book
  pub seen : length draft.seen ≡ length draft.book

-- ---- with one more line

-- The limits of seen cuts after a pending line of this call: the count of the call's caller is at
-- most the number of the call.
abbrev pub lowered : List ℕ → Call → List ℕ
lowered limits call =
    slice_set limits call.caller (min (slice_index limits call.caller) call.number)

-- The limits of seen cuts after a line of this call with this end: only a pending line changes
-- them.
abbrev pub limits_with : List ℕ → Call → LineEnd → List ℕ
limits_with limits call Pending = lowered limits call
limits_with limits call (Unchecked r) = limits
limits_with limits call (Delivered r cut) = limits
limits_with limits call (Error r cut) = limits

-- Each count of the cut `both` is the greater one of the counts of `a` and `b` for the same caller.
pub record AreJoined (a b both : List ℕ) : Type 0 where
  pub wide : length both ≡ length a
  pub greater : (j : ℕ) → slice_index both j ≡ max (slice_index a j) (slice_index b j)

-- The greatest counts of seen cuts were `seen` before a line with this end, and are `after` with
-- it.
abbrev pub AreSeenWith : List ℕ → LineEnd → List ℕ → Type 0
AreSeenWith seen Pending after = after ≡ seen
AreSeenWith seen (Unchecked r) after = after ≡ seen
AreSeenWith seen (Delivered r cut) after = AreJoined seen cut after
AreSeenWith seen (Error r cut) after = AreJoined seen cut after

-- A line of this call with this end fits the limits and the greatest counts of the seen cuts before
-- it: where the line is pending, no earlier seen cut holds its call; where it has a seen cut, this
-- cut is within the limits and holds the call.
abbrev pub FitsKept : List ℕ → List ℕ → Call → LineEnd → Type 0
FitsKept limits seen call Pending = ¬ (Holds seen call)
FitsKept limits seen call (Unchecked r) = Unit {0}
FitsKept limits seen call (Delivered r cut) = IsWithin cut limits × Holds cut call
FitsKept limits seen call (Error r cut) = IsWithin cut limits × Holds cut call
