-- What can be drawn of a book.
use Rattle.std.specs.Prelude.{◌≡◌, ℕ, List, Some, slice_get}
use Rattle.book_base.specs.Book.{Page, IsCall}
use Rattle.sketch.specs.declared.interval.Interval.{Interval}
use Rattle.sketch.specs.Intervals.{StandsOn}

-- Each interval of a lane is of a call of the book.
abbrev pub AreDrawable : List Page → List Interval → Type 0
AreDrawable book lane = (k : ℕ) (interval : Interval) → slice_get lane k ≡ Some interval
    → IsCall book interval.call

-- Each interval of all lanes is of a call of the book.
abbrev pub AreAllDrawable : List Page → List (List Interval) → Type 0
AreAllDrawable book lanes = (caller k : ℕ) (interval : Interval) → StandsOn lanes caller k interval
    → IsCall book interval.call
