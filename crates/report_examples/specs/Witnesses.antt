-- The witness of the worked lines, and lines that no report has.
use Rattle.std.specs.Prelude.{◌^◌, List, [], ◌∷◌}
use Rattle.book_base.specs.Book.{Page}
use Rattle.report_lines.specs.declared.line.Line.{Line}
use Rattle.reports.specs.Cases.{answer, pending, unchecked, delivered, failed, first, second}
use Rattle.report_examples.specs.Lines.{page}

-- The witness of the worked lines, at the second caller's error: a record of the first caller, one
-- of the second, and the two calls that their views hold.
abbrev pub worked_witness : List Page
worked_witness = page (5 ∷ []) (first ∷ []) ∷ page (6 ∷ []) (second ∷ []) ∷ page [] [] ∷ []

-- Lines of one caller: a pending line, and a line after it.
abbrev pub after_pending : List (List Line)
after_pending = (pending 5 ∷ pending 7 ∷ []) ∷ []

-- Lines of one caller: an unchecked line, and a line after it.
abbrev pub after_unchecked : List (List Line)
after_unchecked = (unchecked 5 (answer 50 (1 ∷ [])) ∷ pending 7 ∷ []) ∷ []

-- Lines of one caller: an error line, and a line after it.
abbrev pub after_error : List (List Line)
after_error = (failed 5 (answer 50 (1 ∷ [])) (1 ∷ []) ∷ pending 7 ∷ []) ∷ []

-- One delivered line of one caller, whose seen cut lacks the line's own call.
abbrev pub own_unseen : List (List Line)
own_unseen = (delivered 5 (answer 50 (1 ∷ [])) (0 ∷ []) ∷ []) ∷ []

-- One delivered line of one caller, whose seen cut has counts for two callers.
abbrev pub of_two_callers : List (List Line)
of_two_callers = (delivered 5 (answer 50 (1 ∷ [])) (1 ∷ 0 ∷ []) ∷ []) ∷ []

-- Lines of one caller: a delivered line, whose seen cut counts two records, and a pending line; so
-- the caller has one record alone.
abbrev pub one_too_many : List (List Line)
one_too_many = (delivered 5 (answer 50 (1 ∷ [])) (2 ∷ []) ∷ pending 7 ∷ []) ∷ []

-- One pending line, whose operation is no operation word.
abbrev pub no_operation : List (List Line)
no_operation = (pending (2 ^ 128) ∷ []) ∷ []

-- One unchecked line, whose reply is no reply word.
abbrev pub no_reply : List (List Line)
no_reply = (unchecked 5 (answer (2 ^ 64) (1 ∷ [])) ∷ []) ∷ []

-- Lines of two callers with one unchecked call each, whose views aren't comparable.
abbrev pub crossing : List (List Line)
crossing =
    (unchecked 5 (answer 50 (1 ∷ 0 ∷ [])) ∷ []) ∷ (unchecked 6 (answer 60 (0 ∷ 1 ∷ [])) ∷ []) ∷ []

-- Lines of two callers with one error line each.
abbrev pub two_errors : List (List Line)
two_errors = (failed 5 (answer 50 (1 ∷ 1 ∷ [])) (1 ∷ 0 ∷ []) ∷ [])
    ∷ (failed 6 (answer 60 (1 ∷ 1 ∷ [])) (1 ∷ 1 ∷ []) ∷ []) ∷ []
