-- When a report is lawful.
use Rattle.std.specs.Prelude.{◌≡◌, ℕ, ◌+◌, ◌<◌, List, length, map, take, Some, slice_index}
use Rattle.std.specs.List.{range_with_len, filter_map, flat_map}
use Rattle.book_base.specs.declared.call.Call.{Call}
use Rattle.book_base.specs.SeqSpec.{SeqSpec}
use Rattle.book_base.specs.Cut.{Holds, IsWithin, AreComparable}
use Rattle.book_base.specs.Book.{IsValid}
use Rattle.book_base.specs.BookAt.{greatest_count, book_at}
use Rattle.book_base.specs.Order.{HasLegalOrder}
use Rattle.world_core.specs.Shape.{Shape}
use Rattle.world_core.specs.World.{World, Step, IsReachable, IsRun, end_of}
use Rattle.world_core.specs.History.{IsLinearizable, history_of}
use Rattle.world_core.specs.Calls.{calls_in}
use Rattle.report_lines.specs.declared.line.Line.{Line}
use Rattle.report_lines.specs.Lines.{made_of, calls_of, book_of_lines, lines_at, delivered_in, seen_at, delivered_at, error_at, AreLinesOf}
use Rattle.report_lines.specs.Phases.{operations_of, marks_of, marks_after}
use Rattle.report_lines.specs.Allotments.{operations_at, phases_of, KeepsTo, published_in}

-- The lines `own` are right for a caller with these operations and this allotment: there is one
-- line for each call that the caller made, in the order of its operations, and the caller made all
-- phases of its allotment, or stopped at an error.
pub record IsAllotted (operations : List ℕ) (allotment : ℕ) (own : List Line) : Type 0 where
  pub in_order : operations_of (map made_of own) ≡ take (length own) operations
  pub marks : marks_of (map made_of own) ≡ marks_after (phases_of allotment own)
  pub keeps : KeepsTo allotment own

-- The seen cuts of all lines fit one another, and how many records each caller has published
-- (`published`): each seen cut has one count for each caller, none above what that caller has
-- published, and holds its own line's call as the last one of that call's caller; and any two seen
-- cuts are comparable.
pub record AreSeen (published : List ℕ) (lines : List (List Line)) : Type 0 where
  pub wide : (call : Call) (cut : List ℕ) → seen_at lines call ≡ Some cut
      → length cut ≡ length lines
  pub within : (call : Call) (cut : List ℕ) → seen_at lines call ≡ Some cut → IsWithin cut published
  pub own : (call : Call) (cut : List ℕ) → seen_at lines call ≡ Some cut
      → slice_index cut call.caller ≡ call.number + 1
  pub comparable : (a b : Call) (s t : List ℕ) → seen_at lines a ≡ Some s → seen_at lines b ≡ Some t
      → AreComparable s t

-- The seen cuts of the delivered lines, by caller and then by number.
abbrev pub delivered_cuts : List (List Line) → List (List ℕ)
delivered_cuts lines =
    flat_map (λ (own : List Line). filter_map (λ (line : Line). delivered_in line.end) own) lines

-- The delivered cut of the lines of n callers: for each caller, the greatest count that any
-- delivered line's seen cut has for it, which is 0 where no line is delivered.
abbrev pub delivered_cut : ℕ → List (List Line) → List ℕ
delivered_cut n lines = map (greatest_count (delivered_cuts lines)) (range_with_len 0 n)

-- A report is lawful for a sequential object, for the shape of a world, for each caller's
-- operations, and for how many phases each caller was given: it shows all calls that were made, its
-- delivered replies are in one legal order, and its errors are none that a right object leaves
-- (Herlihy and Wing 1990, Castañeda and Rodríguez 2023).
pub record IsLawful (spec : SeqSpec) (s : Shape) (operations : List (List ℕ)) (allotments : List ℕ)
    (lines : List (List Line)) : Type 0 where
  -- there is a list of lines for each caller
  pub callers : length lines ≡ s.callers
  -- each caller has a line for each call that it made, in the order of its operations
  pub allotted : (i : ℕ) → i < s.callers
      → IsAllotted (operations_at operations i) (slice_index allotments i) (lines_at lines i)
  -- the book of the lines is valid
  pub valid : IsValid (book_of_lines lines)
  -- the seen cuts of the lines are pairwise comparable, hold their own calls, and count published
  -- records alone
  pub seen : AreSeen (published_in allotments lines) lines
  -- where any line is delivered, some delivered line's seen cut is the greatest of all delivered
  -- lines' seen cuts
  pub greatest : (call : Call) (cut : List ℕ) → delivered_at lines call ≡ Some cut → (top : Call)
      × (delivered_at lines top ≡ Some (delivered_cut s.callers lines))
  -- the greatest seen cut of the delivered lines contains the seen cut of each delivered line
  pub contains : (call : Call) (cut : List ℕ) → delivered_at lines call ≡ Some cut
      → IsWithin cut (delivered_cut s.callers lines)
  -- the greatest seen cut of the delivered lines holds the call of each delivered line
  pub holds : (call : Call) (cut : List ℕ) → delivered_at lines call ≡ Some cut
      → Holds (delivered_cut s.callers lines) call
  -- all delivered replies are in one legal order: the book at the greatest seen cut of the
  -- delivered lines has a legal order
  pub one_order : HasLegalOrder spec (book_at (delivered_cut s.callers lines) (book_of_lines lines))
  -- the book at the seen cut of an error line has no legal order
  pub no_order : (call : Call) (cut : List ℕ) → error_at lines call ≡ Some cut
      → ¬ HasLegalOrder spec (book_at cut (book_of_lines lines))
  -- where a line is an error, no run that ends with the calls of these lines has a linearizable
  -- object history, whatever the run's program and cap, and whatever the verdicts of its calls
  pub no_run : (call : Call) (cut : List ℕ) → error_at lines call ≡ Some cut
      → (t : Shape) (steps : List Step) → IsRun t steps → map calls_in (end_of t steps).locals
      ≡ calls_of lines → ¬ IsLinearizable spec (history_of t steps)
  -- some reachable world has exactly the calls of these lines, and each verdict is right by the
  -- book of the lines
  pub reached : (w : World) × IsReachable s w × AreLinesOf spec w.locals lines
