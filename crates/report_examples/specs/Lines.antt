-- What the worked lines tell of, lines that differ from them, and what callers have done.
use Rattle.std.specs.Prelude.{ℕ, List, [], ◌∷◌, Option, Some, None}
use Rattle.book_base.specs.declared.call.Call.{Call}
use Rattle.book_base.specs.declared.call.Record.{Record}
use Rattle.book_base.specs.Book.{Page}
use Rattle.world_core.specs.Local.{Object_step, Local, Asking, fresh}
use Rattle.world_core.specs.Calls.{Is_announced, Has_record, Has_seen, Made}
use Rattle.report_lines.specs.declared.line.Line.{Line}
use Rattle.report_lines.specs.Phases.{Progress}
use Rattle.reports.specs.Cases.{answer, pending, unchecked, delivered, failed, first, second, third}

-- Call `k` of caller `who`.
abbrev pub call : ℕ → ℕ → Call
call who k = record { caller = who; number = k }

-- The operation words of the three callers of the worked lines: two of the first caller, two of the
-- second, and one of the third.
abbrev pub worked_operations : List (List ℕ)
worked_operations = (5 ∷ 7 ∷ []) ∷ (6 ∷ 9 ∷ []) ∷ (8 ∷ []) ∷ []

-- The stops of the three callers of the worked lines: the first caller stops after six phases, the
-- second has no stop, and the third stops after three phases.
abbrev pub worked_stops : List (Option ℕ)
worked_stops = Some 6 ∷ None ∷ Some 3 ∷ []

-- An announced call with the operation `op`, and without a record.
abbrev pub made : ℕ → Made
made op = record { operation = op; reached = Is_announced }

-- A call with the operation `op` and the record `r`, and without a seen cut.
abbrev pub recorded : ℕ → Record → Made
recorded op r = record { operation = op; reached = Has_record r }

-- A call with the operation `op`, the record `r` and the seen cut `cut`.
abbrev pub judged : ℕ → Record → List ℕ → Made
judged op r cut = record { operation = op; reached = Has_seen r cut }

-- The calls that the lines of `worked_lines` tell of, as one list for each of the three callers.
abbrev pub worked_calls : List (List Made)
worked_calls = (judged 5 first (1 ∷ 0 ∷ 0 ∷ []) ∷ made 7 ∷ [])
    ∷ (judged 6 second (1 ∷ 1 ∷ 0 ∷ []) ∷ []) ∷ (recorded 8 third ∷ []) ∷ []

-- The page of a caller with these operations and records.
abbrev pub page : List ℕ → List Record → Page
page operations records = record { operations = operations; records = records }

-- The book of the lines of `worked_lines`, with a page for each of the three callers.
abbrev pub worked_book : List Page
worked_book =
    page (5 ∷ 7 ∷ []) (first ∷ []) ∷ page (6 ∷ []) (second ∷ []) ∷ page (8 ∷ []) (third ∷ []) ∷ []

-- The lines of `worked_lines`, but with a delivered line of the second caller whose seen cut is
-- `cut`.
abbrev pub seen_by_second : List ℕ → List (List Line)
seen_by_second cut = (delivered 5 first (1 ∷ 0 ∷ 0 ∷ []) ∷ pending 7 ∷ [])
    ∷ (delivered 6 second cut ∷ []) ∷ (unchecked 8 third ∷ []) ∷ []

-- The lines of `worked_lines`, but with `cut` as the seen cut of the second caller's error line.
abbrev pub failed_by_second : List ℕ → List (List Line)
failed_by_second cut = (delivered 5 first (1 ∷ 0 ∷ 0 ∷ []) ∷ pending 7 ∷ [])
    ∷ (failed 6 second cut ∷ []) ∷ (unchecked 8 third ∷ []) ∷ []

-- Lines of two callers, three of them delivered and then an error line: the second delivered line
-- has the greatest seen cut of the three, and the error line has a greater one.
abbrev pub three_delivered : List (List Line)
three_delivered =
    (delivered 1 (answer 0 []) (1 ∷ 0 ∷ []) ∷ delivered 2 (answer 0 []) (2 ∷ 1 ∷ []) ∷ [])
    ∷ (delivered 3 (answer 0 []) (1 ∷ 1 ∷ []) ∷ failed 4 (answer 0 []) (2 ∷ 2 ∷ []) ∷ [])
    ∷ []

-- The progress of a caller without object steps: its calls, and how many records it has published.
abbrev pub progress : List Made → ℕ → Progress
progress calls published = record { calls = calls; published = published; steps = [] }

-- A step on object word 0 that found the word `old` there, and left the word `new`.
abbrev pub object_step : ℕ → ℕ → Object_step
object_step old new = record { place = 0; old = old; new = new }

-- The local of a caller with two calls: the first call is judged and made two object steps, and the
-- second is announced and has made one.
abbrev pub stepped : Local
stepped =
    record fresh {
      operations = 5 ∷ 7 ∷ [];
      announced = 2;
      published = 1;
      replies = 50 ∷ [];
      views = first.view ∷ [];
      seen = (1 ∷ 0 ∷ 0 ∷ []) ∷ [];
      object_steps = (object_step 0 3 ∷ object_step 3 6 ∷ []) ∷ (object_step 6 9 ∷ []) ∷ [];
      phase = Asking;
    }
