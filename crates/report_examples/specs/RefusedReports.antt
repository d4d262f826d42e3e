-- Worked reports of a run in which each of two callers makes one whole call, and wrong reports.
use Rattle.std.specs.Prelude.{ℕ, List, [], ◌∷◌}
use Rattle.book_base.specs.declared.call.Place.{Place}
use Rattle.book_base.specs.SeqSpec.{SeqSpec}
use Rattle.world_core.specs.Shape.{Shape}
use Rattle.world_examples.specs.Schedules.{pair}
use Rattle.report_lines.specs.declared.line.Line.{Line}
use Rattle.reports.specs.Cases.{pending, delivered, failed}
use Rattle.report_lines.specs.Lawful.{IsLawful}
use Rattle.report_examples.specs.ReportedRuns.{fifty, sixty}
use Rattle.reports.specs.Orders.{DeliveredLinesStandIn, delivered_book}

-- Lines of two callers: the first has a delivered line with the operation 5 and the reply 50, and
-- the second has the lines `own`.
abbrev pub with_second : List Line → List (List Line)
with_second own = (delivered 5 fifty (1 ∷ 0 ∷ []) ∷ []) ∷ own ∷ []

-- Lines of two callers: the first has the lines `own`, and the second has a delivered line with the
-- operation 6 and the reply 60.
abbrev pub with_first : List Line → List (List Line)
with_first own = own ∷ (delivered 6 sixty (1 ∷ 1 ∷ []) ∷ []) ∷ []

-- Lines of two callers: the first has an error line and then a pending line, and the second has an
-- error line.
abbrev pub after_an_error : List (List Line)
after_an_error =
    (failed 5 fifty (1 ∷ 0 ∷ []) ∷ pending 7 ∷ []) ∷ (failed 6 sixty (1 ∷ 1 ∷ []) ∷ []) ∷ []

-- The lines are no lawful report, whatever the shape of the world, the operations and the
-- allotments.
abbrev pub AreNoReport : SeqSpec → List (List Line) → Type 0
AreNoReport spec lines = (s : Shape) (operations : List (List ℕ)) (allotments : List ℕ)
    → ¬ IsLawful spec s operations allotments lines

-- Each delivered line of two callers' lines has a place in this order of their delivered book.
abbrev pub StandInOrder : List (List Line) → List Place → Type 0
StandInOrder lines order = DeliveredLinesStandIn lines (delivered_book pair lines) order

-- The place of a caller's first call in an order, with its reply.
abbrev pub first_place : ℕ → ℕ → Place
first_place who reply = record { caller = who; number = 0; reply = reply }
