-- Worked reports of two callers that stop, which show that a report belongs to one stop alone.
use Rattle.std.specs.Prelude.{ℕ, List, [], ◌∷◌, Option, Some}
use Rattle.seq_objects.specs.declared.kind.Kind.TheVariants.{Queue}
use Rattle.world_core.specs.World.{Step}
use Rattle.world_examples.specs.Schedules.{pair, silent}
use Rattle.world_examples.specs.JudgedRuns.{locals_after}
use Rattle.report_lines.specs.Allotments.{allotments_of}
use Rattle.client_scripts.specs.Plans.{Plan}
use Rattle.report_examples.specs.ReportedRuns.{five_and_six, stopped}
use Rattle.run_report.specs.Reporting.{IsReportOf}

-- The stops of two callers: the first caller stops after this many phases, and the second after
-- two.
abbrev pub stops_after : ℕ → List (Option ℕ)
stops_after phases = Some phases ∷ Some 2 ∷ []

-- The plan of two callers of a queue, of whom the first stops after this many phases, and the
-- second after two.
abbrev pub plan_to : ℕ → Plan
plan_to phases =
    record { kind = Queue; operations = five_and_six; stops = stops_after phases; turns = [] }

-- The report of a plan in which the first caller stops after this many phases, at the locals after
-- these steps: the first caller has its record, and the second one has announced its call.
abbrev pub IsStoppedReport : ℕ → List Step → Type 0
IsStoppedReport phases steps =
    IsReportOf silent pair (locals_after steps) (plan_to phases)
    (allotments_of five_and_six (stops_after phases)) (record { kind = Queue; lines = stopped })
