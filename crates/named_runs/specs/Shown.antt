-- What an onlooker is shown of runs: the tables on which they ended.
use Rattle.std.specs.Prelude.{◌≡◌, ℕ, ◌++◌, List, [], ◌∷◌, Option, option_map}
use Rattle.book_base.specs.SeqSpec.{SeqSpec}
use Rattle.world_core.specs.Shape.{Shape}
use Rattle.world_core.specs.Local.{Local}
use Rattle.client_scripts.specs.Plans.{Plan}
use Rattle.reports.specs.Findings.{Findings}
use Rattle.run_report.specs.Reporting.{IsReportOf}

-- A table on which a run has ended: the shape of its world, and the locals that its callers have.
pub record Ended : Type 0 where
  pub shape : Shape
  pub locals : List Local

-- An onlooker that keeps what it was shown keeps the tables of `before` and then this one; one that
-- keeps nothing still keeps nothing.
abbrev pub Sees : Option (List Ended) → Ended → Option (List Ended) → Type 0
Sees before ended after = after ≡ option_map (λ shown. shown ++ ended ∷ []) before

-- A lawful report of a plan's callers with these allotments, of the one table that an onlooker was
-- shown between `shown` and `shown'`: the table's world has this shape, and the lines are those of
-- its callers' locals.
pub record IsShownReport (object : SeqSpec) (s : Shape) (plan : Plan) (allotments : List ℕ)
    (shown shown' : Option (List Ended)) (findings : Findings) : Type 0 where
  pub locals : List Local
  pub report : IsReportOf object s locals plan allotments findings
  pub seen : Sees shown (record { shape = s; locals = locals }) shown'
