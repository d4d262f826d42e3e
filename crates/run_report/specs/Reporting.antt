-- The report of the callers of a plan, by the locals that they leave.
use Rattle.std.specs.Prelude.{◌≡◌, ℕ, ◌%◌, ◌<◌, false, List, Option, Some, IfSome, length, map, slice_index}
use Rattle.book_base.specs.declared.TheConstants.{MAX_CALLS}
use Rattle.book_base.specs.SeqSpec.{SeqSpec}
use Rattle.world_core.specs.Shape.{Meaning, Shape}
use Rattle.world_core.specs.Programs.{outside}
use Rattle.world_core.specs.Local.{Local}
use Rattle.world_core.specs.Calls.{AreTogether, local_at}
use Rattle.report_lines.specs.Lines.{made_of, lines_at, any_error, AreLinesOf}
use Rattle.report_lines.specs.Phases.{HasMade, IsTold, asked}
use Rattle.report_lines.specs.Allotments.{operations_at, phases_of}
use Rattle.report_lines.specs.Lawful.{IsLawful}
use Rattle.row_table.specs.declared.rows.Rows.{Rows}
use Rattle.row_table.specs.declared.bench.Bench.{Bench}
use Rattle.row_table.specs.Benches.{fresh_stance}
use Rattle.row_table.specs.Callers.{shape_of, locals_on, stance_on}
use Rattle.client_scripts.specs.Plans.{Plan}
use Rattle.client_calls.specs.Asking.{PassCount}
use Rattle.client_calls.specs.Finishing.{KeepsAsked}
use Rattle.reports.specs.Findings.{Findings}
use Rattle.run_report.specs.Places.{AreInOrder}

-- The shape of the world of n callers with the greatest cap, whose object is outside the world.
abbrev pub outside_shape : ℕ → Shape
outside_shape n = record { callers = n; cap = MAX_CALLS; program = outside }

-- The findings are those of the callers of a plan, with these allotments and these locals. They are
-- of the plan's kind and lawful. Their lines are those of the locals, which are of one reachable
-- world, and each caller has made just the phases that its lines determine: one that stopped after
-- its publication has published. A call under way that was announced and not asked has no object
-- step, and for one that was asked and has no view the program allows the caller some reply.
pub record IsReportOf (spec : SeqSpec) (s : Shape) (locals : List Local) (plan : Plan)
    (allotments : List ℕ) (findings : Findings) : Type 0 where
  pub kind : findings.kind ≡ plan.kind
  pub together : AreTogether s locals
  pub lines : AreLinesOf spec locals findings.lines
  pub made : (i : ℕ) → i < s.callers → HasMade (operations_at plan.operations i)
      (phases_of (slice_index allotments i) (lines_at findings.lines i)) (local_at locals i)
  pub asked : (i : ℕ) → i < s.callers → KeepsAsked s.program i
      (phases_of (slice_index allotments i) (lines_at findings.lines i)) (local_at locals i)
  pub lawful : IsLawful spec s plan.operations allotments findings.lines

-- Where caller i has no error line, and by its lines stopped between two calls, or made all of its
-- calls, it is on the bench, free for its next call.
abbrev pub IsFreeAgain : {P : Type 0} → Bench P → List ℕ → Findings → ℕ → Type 0
IsFreeAgain b allotments findings i =
    any_error (lines_at findings.lines i) ≡ false
    → phases_of (slice_index allotments i) (lines_at findings.lines i) % 5 ≡ 0
    → stance_on b i ≡ Some fresh_stance

-- With the pass of caller i just as many calls were made as the object was asked for by the
-- caller's lines. Where the pass tells calls, it tells an operation and a reply for each.
pub record IsToldIn {T : Type 0} (made : T → ℕ) (told : T → Option (List (ℕ × ℕ)))
    (allotments : List ℕ) (findings : Findings) (i : ℕ) (pass : T) : Type 0 where
  pub asked_for : made pass
      ≡ asked (phases_of (slice_index allotments i) (lines_at findings.lines i))
  pub told_is : IfSome (told pass)
      (IsTold (phases_of (slice_index allotments i) (lines_at findings.lines i))
      (map made_of (lines_at findings.lines i)))

-- The count of caller i's pass is of exactly the calls that the object was asked for by the
-- caller's lines, and tells, where it tells calls, an operation and a reply for each.
abbrev pub IsCountIn : List ℕ → Findings → ℕ → PassCount → Type 0
IsCountIn = IsToldIn (λ (count : PassCount). count.made) (λ (count : PassCount). count.told)

-- The pass of caller i, where it counts calls, counts exactly those that the object was asked for
-- by the caller's lines, and tells, where it tells calls, an operation and a reply for each.
abbrev pub IsCountedIn : {T : Type 0} → (T → Option PassCount) → List ℕ → Findings → ℕ → T → Type 0
IsCountedIn count allotments findings i pass = IfSome (count pass) (IsCountIn allotments findings i)

-- The report that a run of a plan's callers answers, with this bench and these passes.
pub record IsRunReport {P T : Type 0} (spec : SeqSpec) (meaning : P → ℕ → ℕ → Meaning) (r : Rows P)
    (count : T → Option PassCount) (plan : Plan) (allotments : List ℕ) (b : Bench P)
    (passes : List T) (findings : Findings) : Type 0 where
  -- It is of the plan's kind and lawful. Its lines are those of the locals on the bench, which are
  -- of one reachable world, and each caller has made just the phases that its lines determine.
  pub report : IsReportOf spec (shape_of meaning r) (locals_on b) plan allotments findings
  -- Each caller that has no error line and by its lines stopped between two calls, or made all of
  -- them, is free for its next call.
  pub free : (i : ℕ) → i < length plan.operations → IsFreeAgain b allotments findings i
  -- A pass that counts calls counts exactly those that the object was asked for by its caller's
  -- lines. Where it tells calls, it tells an operation and a reply for each of them.
  pub counted : AreInOrder (IsCountedIn count allotments findings) passes
