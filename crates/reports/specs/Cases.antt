-- Worked lines of three callers, with all four ends of a line, and their report: a delivered and a
-- pending line of the first caller, an error line of the second, and an unchecked line of the third.
use Rattle.std.specs.Prelude.{ℕ, List, [], ◌∷◌}
use Rattle.book_base.specs.declared.call.Record.{Record}
use Rattle.seq_objects.specs.declared.kind.Kind.TheVariants.{Queue}
use Rattle.report_lines.specs.declared.line.LineEnd.TheVariants.{Pending, Unchecked, Delivered, Error}
use Rattle.report_lines.specs.declared.line.Line.{Line}
use Rattle.reports.specs.Findings.{Findings}

-- The record with this reply and this view.
abbrev pub answer : ℕ → List ℕ → Record
answer reply view = record { reply = reply; view = view }

-- A pending line: its call has the operation `op`, and no record.
abbrev pub pending : ℕ → Line
pending op = record { op = op; end = Pending }

-- An unchecked line: its call has the operation `op` and the record `r`, and no seen cut.
abbrev pub unchecked : ℕ → Record → Line
unchecked op r = record { op = op; end = Unchecked r }

-- A delivered line: its call has the operation `op`, the record `r` and the seen cut `cut`.
abbrev pub delivered : ℕ → Record → List ℕ → Line
delivered op r cut = record { op = op; end = Delivered r cut }

-- An error line: its call has the operation `op`, the record `r` and the seen cut `cut`.
abbrev pub failed : ℕ → Record → List ℕ → Line
failed op r cut = record { op = op; end = Error r cut }

-- The record of the first caller's first call in the worked lines, with the reply 50 and a view
-- that holds this call alone.
abbrev pub first : Record
first = answer 50 (1 ∷ 0 ∷ 0 ∷ [])

-- The record of the second caller's call in the worked lines, with the reply 61 and a view that
-- holds the first calls of the first two callers.
abbrev pub second : Record
second = answer 61 (1 ∷ 1 ∷ 0 ∷ [])

-- The record of the third caller's call in the worked lines, with the reply 80 and a view that
-- holds the first call of each caller.
abbrev pub third : Record
third = answer 80 (1 ∷ 1 ∷ 1 ∷ [])

-- The worked lines: the first caller has a delivered and a pending line, the second an error line,
-- and the third an unchecked line.
abbrev pub worked_lines : List (List Line)
worked_lines =
    (delivered 5 first (1 ∷ 0 ∷ 0 ∷ []) ∷ pending 7 ∷ [])
    ∷ (failed 6 second (1 ∷ 1 ∷ 0 ∷ []) ∷ [])
    ∷ (unchecked 8 third ∷ [])
    ∷ []

-- The findings of a report of a queue with these lines.
abbrev pub of_queue : List (List Line) → Findings
of_queue lines = record { kind = Queue; lines = lines }

-- The findings of a report of a queue with the worked lines: those of three callers with all four
-- ends.
abbrev pub worked : Findings
worked = of_queue worked_lines
