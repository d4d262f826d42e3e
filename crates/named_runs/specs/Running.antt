-- What the report of a run of a script's callers is, by the bench that the run leaves.
use Rattle.std.specs.Prelude.{◌≡◌, ◌⊎◌, ℕ, ◌<◌, List, Option, true, false, length}
use Rattle.std.specs.List.{list_any}
use Rattle.book_base.specs.SeqSpec.{SeqSpec}
use Rattle.world_core.specs.Shape.{Meaning}
use Rattle.report_lines.specs.Lines.{any_error}
use Rattle.row_table.specs.declared.rows.Rows.{Rows}
use Rattle.row_table.specs.declared.bench.Bench.{Bench}
use Rattle.row_table.specs.Callers.{shape_of, locals_on}
use Rattle.client_scripts.specs.Plans.{Plan}
use Rattle.reports.specs.Findings.{Findings}
use Rattle.run_report.specs.Places.{AreInOrder}
use Rattle.run_report.specs.Reporting.{IsReportOf, IsFreeAgain, IsToldIn}
use Rattle.byte_streams.specs.declared.status.Status.{Status}
use Rattle.byte_streams.specs.declared.status.Status.TheVariants.{Fine, Found, WriteFault, NoMemory}

-- The findings are a lawful report of a plan's callers with these allotments, of the locals on this
-- bench, judged by a sequential object.
abbrev pub IsBenchReport : {P : Type 0} → SeqSpec → (P → ℕ → ℕ → Meaning) → Rows P → Bench P → Plan
    → List ℕ → Findings → Type 0
IsBenchReport object meaning rows bench plan allotments findings =
    IsReportOf object (shape_of meaning rows)
    (locals_on bench) plan allotments findings

-- The findings are a lawful report of a plan's callers, of the locals on this bench, with no error
-- line.
pub record IsCoreReport {P : Type 0} (object : SeqSpec) (meaning : P → ℕ → ℕ → Meaning)
    (rows : Rows P) (bench : Bench P) (plan : Plan) (allotments : List ℕ)
    (findings : Findings) : Type 0 where
  pub report : IsBenchReport object meaning rows bench plan allotments findings
  pub no_error : list_any any_error findings.lines ≡ false

-- The findings are a lawful report of a plan's callers, of the locals on this bench. With pass i
-- the object was asked for just the calls that the lines of caller i determine, and where the pass
-- tells a list, this has their operations and their replies.
pub record IsToldBenchReport {P T : Type 0} (object : SeqSpec) (meaning : P → ℕ → ℕ → Meaning)
    (rows : Rows P) (bench : Bench P) (made : T → ℕ) (told : T → Option (List (ℕ × ℕ)))
    (passes : List T) (plan : Plan) (allotments : List ℕ) (findings : Findings) : Type 0 where
  pub report : IsBenchReport object meaning rows bench plan allotments findings
  pub told_in : AreInOrder (IsToldIn made told allotments findings) passes

-- A run ended with this status. Unless a write failed or memory was lacking, the status is `Found`
-- where a line of the run's report is an error, and `Fine` where none is. Unless memory was
-- lacking, each caller that has no error line, and stopped between two calls or made all of its
-- calls, is free for its next one.
pub record EndsByReport {P : Type 0} (object : SeqSpec) (meaning : P → ℕ → ℕ → Meaning)
    (rows : Rows P) (bench : Bench P) (plan : Plan) (allotments : List ℕ)
    (status : Status) : Type 0 where
  pub found : (report : Findings) → IsBenchReport object meaning rows bench plan allotments report
      → list_any any_error report.lines ≡ true
      → (status ≡ Found) ⊎ (status ≡ WriteFault) ⊎ (status ≡ NoMemory)
  pub fine : (report : Findings) → IsBenchReport object meaning rows bench plan allotments report
      → list_any any_error report.lines ≡ false
      → (status ≡ Fine) ⊎ (status ≡ WriteFault) ⊎ (status ≡ NoMemory)
  pub free : ¬ (status ≡ NoMemory) → (report : Findings)
      → IsBenchReport object meaning rows bench plan allotments report
      → (i : ℕ) → i < length plan.operations → IsFreeAgain bench allotments report i
