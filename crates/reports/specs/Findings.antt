-- What a report says: a line for each call of each caller, for an object of a kind.
use Rattle.std.specs.Prelude.{◌≡◌, ℕ, ◌+◌, ◌<◌, ◌≤◌, ◌^◌, ◌⊎◌, false, List, length, map, take, Some, None, IsSome, slice_get}
use Rattle.std.specs.List.{AllByRecursion, list_any}
use Rattle.book_base.specs.declared.call.Call.{Call}
use Rattle.book_base.specs.declared.call.Record.{Record}
use Rattle.book_base.specs.OperationWord.{IsOperationWord}
use Rattle.book_base.specs.Cut.{Holds, IsWithin}
use Rattle.book_base.specs.Book.{Page, IsValid, answered, record_of}
use Rattle.book_base.specs.BookAt.{IsBookAt}
use Rattle.seq_objects.specs.declared.kind.Kind.{Kind}
use Rattle.text_fields.specs.declared.TheConstants.{TEXT_CALLERS, TEXT_CALLS}
use Rattle.text_fields.specs.Counts.{AreAtMost}
use Rattle.report_lines.specs.declared.line.Line.{Line}
use Rattle.report_lines.specs.Lines.{book_of_lines, lines_at, line_at, delivered_in, error_in, seen_at, error_at, any_error}

-- What a report says: the kind of the object, and the lines of each caller.
pub record Findings : Type 0 where
  -- the kind of the object
  pub kind : Kind
  -- the lines of each caller, one for each of its calls
  pub lines : List (List Line)

-- How many lines each caller has.
abbrev pub sizes : List (List Line) → List ℕ
sizes lines = map (λ own. length own) lines

-- There is a line for this call.
abbrev pub HasLine : List (List Line) → Call → Type 0
HasLine lines call = call.number < length (lines_at lines call.caller)

-- The seen cuts of the lines fit their book: each seen cut has a count for each caller, none above
-- that caller's number of records in the book, and holds its own line's call.
pub record AreSeenInBook (lines : List (List Line)) : Type 0 where
  pub wide : (call : Call) (cut : List ℕ) → seen_at lines call ≡ Some cut
      → length cut ≡ length lines
  pub within : (call : Call) (cut : List ℕ) → seen_at lines call ≡ Some cut
      → IsWithin cut (answered (book_of_lines lines))
  pub own : (call : Call) (cut : List ℕ) → seen_at lines call ≡ Some cut → Holds cut call

-- The cut has a count for each caller, none above that caller's number of records in the book of
-- the lines.
abbrev pub IsInBook : List (List Line) → List ℕ → Type 0
IsInBook lines cut = (length cut ≡ length lines) × IsWithin cut (answered (book_of_lines lines))

-- Each line but a caller's last is delivered.
abbrev pub AreDelivered : List (List Line) → Type 0
AreDelivered lines = (call : Call) (line : Line) → line_at lines call ≡ Some line
    → call.number + 1 < length (lines_at lines call.caller) → IsSome (delivered_in line.end)

-- A text of version 2 can say these findings: there is at least one caller, the callers and the
-- lines of each are at most as many as a text may have, the operations are operation words, the
-- replies are below 2^64, the book of the lines is valid, the seen cuts fit the lines, and each
-- line but a caller's last is delivered.
pub record IsReport (findings : Findings) : Type 0 where
  pub some : 1 ≤ length findings.lines
  pub callers : length findings.lines ≤ TEXT_CALLERS
  pub calls : AreAtMost TEXT_CALLS (sizes findings.lines)
  pub operations : AllByRecursion (AllByRecursion (λ line. IsOperationWord line.op)) findings.lines
  pub replies : (call : Call) (r : Record) → record_of (book_of_lines findings.lines) call ≡ Some r
      → r.reply < 2 ^ 64
  pub valid : IsValid (book_of_lines findings.lines)
  pub seen : AreSeenInBook findings.lines
  pub delivered : AreDelivered findings.lines

-- ---- the first error

-- A call comes before another, by caller and then by number.
abbrev pub StandsBefore : Call → Call → Type 0
StandsBefore a b = (a.caller < b.caller) ⊎ ((a.caller ≡ b.caller) × (a.number < b.number))

-- The line of this call is an error that saw this cut, and no line before it is an error.
pub record IsFirstError (lines : List (List Line)) (call : Call) (cut : List ℕ) : Type 0 where
  pub error : error_at lines call ≡ Some cut
  pub first : (other : Call) → StandsBefore other call → error_at lines other ≡ None

-- No line is an error.
abbrev pub HasNoError : List (List Line) → Type 0
HasNoError lines = list_any any_error lines ≡ false

-- The cut is the seen cut of the first error line, by caller and then by number.
abbrev pub HasFirstError : List (List Line) → List ℕ → Type 0
HasFirstError lines cut = (call : Call) × IsFirstError lines call cut

-- The cut is the seen cut of the first error line among one caller's lines.
abbrev pub HasFirstErrorIn : List Line → List ℕ → Type 0
HasFirstErrorIn own cut = (k : ℕ) × (line : Line) × (slice_get own k ≡ Some line)
    × (error_in line.end ≡ Some cut) × (any_error (take k own) ≡ false)

-- The book is the witness of the lines: the book of the lines at the seen cut of the first error
-- line.
pub record IsWitness (lines : List (List Line)) (book : List Page) : Type 0 where
  pub call : Call
  pub cut : List ℕ
  pub error : IsFirstError lines call cut
  pub at : IsBookAt (book_of_lines lines) cut book
