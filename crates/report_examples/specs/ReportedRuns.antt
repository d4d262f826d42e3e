-- Reports for worked cases, of runs of two callers.
use Rattle.std.specs.Prelude.{ℕ, List, [], ◌∷◌, ◌++◌, length, drop}
use Rattle.book_base.specs.declared.call.Record.{Record}
use Rattle.world_core.specs.World.{Step}
use Rattle.world_examples.specs.Schedules.{announced_both, published_one, judged_both, two_calls}
use Rattle.world_examples.specs.JudgedRuns.{gathering}
use Rattle.report_lines.specs.declared.line.Line.{Line}
use Rattle.reports.specs.Cases.{answer, pending, unchecked, delivered, failed}

-- The operation words of two callers with one call each: 5 and 6.
abbrev pub five_and_six : List (List ℕ)
five_and_six = (5 ∷ []) ∷ (6 ∷ []) ∷ []

-- The record of the first caller's call, with the reply 50 and a view that holds both callers'
-- calls.
abbrev pub fifty : Record
fifty = answer 50 (1 ∷ 1 ∷ [])

-- The record of the second caller's call, with the reply 60 and a view that holds both callers'
-- calls.
abbrev pub sixty : Record
sixty = answer 60 (1 ∷ 1 ∷ [])

-- The lines of two callers with one call each, both delivered.
abbrev pub both_delivered : List (List Line)
both_delivered = (delivered 5 fifty (1 ∷ 0 ∷ []) ∷ []) ∷ (delivered 6 sixty (1 ∷ 1 ∷ []) ∷ []) ∷ []

-- The lines of two callers with one call each, both errors.
abbrev pub both_failed : List (List Line)
both_failed = (failed 5 fifty (1 ∷ 0 ∷ []) ∷ []) ∷ (failed 6 sixty (1 ∷ 1 ∷ []) ∷ []) ∷ []

-- The lines of two callers with one call each: the first is an error, and the second is delivered.
abbrev pub first_failed : List (List Line)
first_failed = (failed 5 fifty (1 ∷ 0 ∷ []) ∷ []) ∷ (delivered 6 sixty (1 ∷ 1 ∷ []) ∷ []) ∷ []

-- The lines of two callers with one call each, both delivered, where the second caller's seen cut
-- lacks the first caller's call.
abbrev pub seen_otherwise : List (List Line)
seen_otherwise = (delivered 5 fifty (1 ∷ 0 ∷ []) ∷ []) ∷ (delivered 6 sixty (0 ∷ 1 ∷ []) ∷ []) ∷ []

-- The lines of two callers that stopped: the first caller's call has its record, and the second
-- caller's call is announced.
abbrev pub stopped : List (List Line)
stopped = (unchecked 5 fifty ∷ []) ∷ (pending 6 ∷ []) ∷ []

-- The lines of two callers that made no call: an empty list for each.
abbrev pub nothing : List (List Line)
nothing = [] ∷ [] ∷ []

-- The lines of two callers: the first stopped before it judged its call, and the second caller's
-- call is delivered.
abbrev pub one_unchecked : List (List Line)
one_unchecked = (unchecked 5 fifty ∷ []) ∷ (delivered 6 sixty (1 ∷ 1 ∷ []) ∷ []) ∷ []

-- A run that leaves the first caller's call unchecked and the second's delivered: the second caller
-- peeks each word of the book at its seen cut.
abbrev pub one_judging : List Step
one_judging =
    ((announced_both ++ published_one) ++ judged_both) ++ drop (length two_calls) gathering

-- The lines of two callers: the first has a delivered call and a further one that is announced, and
-- the second has no call.
abbrev pub second_begun : List (List Line)
second_begun = (delivered 5 (answer 50 (1 ∷ 0 ∷ [])) (1 ∷ 0 ∷ []) ∷ pending 7 ∷ []) ∷ [] ∷ []
