-- Worked runs of two callers, and their books.
use Rattle.std.specs.Prelude.{ℕ, nat_lt, if◌then◌else◌, List, [], ◌∷◌, ◌++◌, length, slice_index}
use Rattle.book_base.specs.declared.call.Record.{Record}
use Rattle.book_base.specs.SeqSpec.{SeqSpec}
use Rattle.book_base.specs.Book.{Page}
use Rattle.book_base.specs.BookAt.{book_at}
use Rattle.book_base.specs.Order.{HasLegalOrder}
use Rattle.world_core.specs.declared.region.Region.TheVariants.{N, M}
use Rattle.world_core.specs.Shape.{Shape}
use Rattle.world_core.specs.Local.{Local}
use Rattle.world_core.specs.Event.{Event, Announce, Look, Peek, Begins_none, Begins_view, staged_operation}
use Rattle.world_core.specs.World.{World, Step, start, after, local_of, IsRun, end_of}
use Rattle.world_core.specs.History.{Happening, Invoked, Returned, IsLinearizable, call_of}
use Rattle.world_core.specs.Calls.{IsPublished, book_in}
use Rattle.world_examples.specs.Schedules.{pair, by, announcement, publication, two_calls}

-- The locals after these steps in a world of two callers with one row each.
abbrev pub locals_after : List Step → List Local
locals_after steps = (end_of pair steps).locals

-- The page with these operations and records.
abbrev pub page : List ℕ → List Record → Page
page operations records = record { operations = operations; records = records }

-- The record with this reply and this view.
abbrev pub answer : ℕ → List ℕ → Record
answer reply view = record { reply = reply; view = view }

-- The book of two whole calls, one of each caller. The view of each call holds both calls.
abbrev pub both_answered : List Page
both_answered =
    page (5 ∷ []) (answer 50 (1 ∷ 1 ∷ []) ∷ []) ∷ page (6 ∷ []) (answer 60 (1 ∷ 1 ∷ []) ∷ []) ∷ []

-- The book of the two whole calls at the cut of the first one's record: the second has no record.
abbrev pub one_answered : List Page
one_answered = page (5 ∷ []) (answer 50 (1 ∷ 1 ∷ []) ∷ []) ∷ page (6 ∷ []) [] ∷ []

-- After the run of two whole calls caller 1 peeks both operations, both replies and both views.
abbrev pub gathering : List Step
gathering =
    two_calls
    ++ by 1 (Peek N 0 0 0 5)
    ∷ by 1 (Peek N 0 0 1 0)
    ∷ by 1 (Peek N 1 0 0 6)
    ∷ by 1 (Peek N 1 0 1 0)
    ∷ by 1 (Peek M 0 0 0 50)
    ∷ by 1 (Peek M 0 0 1 1)
    ∷ by 1 (Peek M 0 0 2 1)
    ∷ by 1 (Peek M 1 0 0 60)
    ∷ by 1 (Peek M 1 0 1 1)
    ∷ by 1 (Peek M 1 0 2 1)
    ∷ []

-- What happens to calls at an event of caller `who`, with local l before and local m after it,
-- where a call returns only once it has its view, at the last step of the view's scan.
abbrev pub late_happenings : ℕ → Local → Local → Event → List Happening
late_happenings who l m Announce =
    Invoked (call_of who l.announced) (staged_operation l.staged) ∷ []
late_happenings who l m _ =
    if nat_lt (length l.views) (length m.views) then Returned (call_of who (length l.views))
    (slice_index l.replies (length l.views)) ∷ [] else []

-- The history of some steps from a world on, where each call returns only once it has its view.
abbrev pub late_history_from : Shape → World → List Step → List Happening
late_history_from s w [] = []
late_history_from s w (step ∷ steps) =
    late_happenings step.who (local_of w step.who) (local_of (after s w step) step.who) step.event
    ++ late_history_from s (after s w step) steps

-- The history of some steps from the start, where each call returns only once it has its view.
abbrev pub late_history_of : Shape → List Step → List Happening
late_history_of s steps = late_history_from s (start s) steps

-- No error would be false even if each call returned only once it has its view.
abbrev pub ReturnsMayBeLate : Type 0
ReturnsMayBeLate =
    (spec : SeqSpec) (s : Shape) (steps : List Step) (cut : List ℕ)
    → IsRun s steps
    → IsLinearizable spec (late_history_of s steps) → IsPublished (end_of s steps).locals cut
    → HasLegalOrder spec (book_at cut (book_in (end_of s steps).locals))

-- Caller 1 announces 6, and its object replies 1. Right before the last look of that call's view
-- caller 0 announces 5, which the view misses.
abbrev pub missed : List Step
missed =
    announcement 1 6 (0 ∷ 0 ∷ [])
    ++ by 1 (Look N 0 0 (Begins_view 1))
    ∷ by 1 (Look N 1 1 Begins_none)
    ∷ by 1 (Look N 0 0 Begins_none)
    ∷ announcement 0 5 (0 ∷ 1 ∷ [])
    ++ by 1 (Look N 1 1 Begins_none)
    ∷ publication 1 1 (0 ∷ 1 ∷ []) (0 ∷ 0 ∷ [])

-- The book at the cut of caller 1's record alone, where the view of this record misses the call of
-- caller 0.
abbrev pub missed_part : List Page
missed_part = page [] [] ∷ page (6 ∷ []) (answer 1 (0 ∷ 1 ∷ []) ∷ []) ∷ []
