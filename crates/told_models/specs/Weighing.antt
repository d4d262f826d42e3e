-- How much a search has left to try.
use Rattle.std.specs.Prelude.{ℕ, zero, suc, ◌+◌, ◌*◌, ◌-◌, ◌≤◌, false, if◌then◌else◌, List, [], ◌∷◌, slice_index_or, Option, Some, None}
use Rattle.book_base.specs.declared.TheConstants.{MAX_CALLERS}
use Rattle.book_base.specs.Book.{Page}
use Rattle.search_hints.specs.declared.marked_callers.MarkedCallers.{MarkedCallers}
use Rattle.told_models.specs.declared.answer.Answer.{Answer}
use Rattle.told_models.specs.Closed.{number_of_calls}
use Rattle.told_models.specs.declared.walk.Frame.{Frame}
use Rattle.told_models.specs.declared.walk.Walk.{Walk}
use Rattle.told_models.specs.declared.walk.Step.{Step}
use Rattle.told_models.specs.declared.walk.Step.TheVariants.{Found, NoneLeft, Asks, GoesOn}
use Rattle.told_models.specs.declared.told_search.ToldSearch.{ToldSearch}

-- how many of the callers below a number are marked
abbrev pub marked_below : MarkedCallers → ℕ → ℕ
marked_below marks zero = 0
marked_below marks (suc caller) =
    (if slice_index_or marks.callers caller false then 1 else 0) + marked_below marks caller

-- how many callers are marked
unfoldable pub number_marked : MarkedCallers → ℕ
number_marked marks = marked_below marks MAX_CALLERS

-- A bound on how often a search may turn to another caller in the last `depth` places of an order:
-- the greatest number of callers plus 2, to the power of `depth`.
unfoldable pub ways : ℕ → ℕ
ways zero = 1
ways (suc depth) = (MAX_CALLERS + 2) * ways depth

-- A number for how much is left to try, where at most `depth` places follow: of each frame the
-- callers that wait there, its own among them, and at the end `waiting` callers and one more, each
-- times the bound `ways` for the places that may still follow there.
unfoldable pub weigh : ℕ → List Frame → ℕ → ℕ
weigh depth [] waiting = (waiting + 1) * ways depth
weigh depth (frame ∷ frames) waiting =
    number_marked frame.waiting * ways depth + weigh (depth - 1) frames waiting

-- the number for how much is left to try in a walk through a book
abbrev pub weight : List Page → Walk → ℕ
weight book walk = weigh (number_of_calls book) walk.frames.items (number_marked walk.waiting)

-- A step of a walk makes it lighter where the walk goes on, and never heavier.
abbrev pub IsLighter : List Page → Walk → Step → Walk → Type 0
IsLighter book old (Found order) new = weight book new ≤ weight book old
IsLighter book old NoneLeft new = weight book new ≤ weight book old
IsLighter book old (Asks state op) new = weight book new ≤ weight book old
IsLighter book old GoesOn new = weight book new + 1 ≤ weight book old

-- The number for how much is left to try in a search of a book: 0 where the book has no answered
-- call.
abbrev pub weight_at : List Page → Option Walk → ℕ
weight_at book None = 0
weight_at book (Some walk) = weight book walk

abbrev pub weight_of : List Page → ToldSearch → ℕ
weight_of book search = weight_at book search.walk

-- The greatest number for how much a search of a book has left to try at its beginning.
abbrev pub most_weight : List Page → ℕ
most_weight book = (MAX_CALLERS + 1) * ways (number_of_calls book)

-- Going on with a search never makes it heavier; and where `steps` steps were made and no answer
-- was found, it is lighter by as much.
abbrev pub HasGoneOn : List Page → ℕ → ToldSearch → Option Answer → ToldSearch → Type 0
HasGoneOn book steps old (Some answer) new = weight_of book new ≤ weight_of book old
HasGoneOn book steps old None new = weight_of book new + steps ≤ weight_of book old
