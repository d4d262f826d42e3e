-- Searches at their beginning and later.
use Rattle.std.specs.Prelude.{List, length, replicate, Option, Some, None}
use Rattle.book_base.specs.Book.{Page}
use Rattle.book_base.specs.Next.{HoldsAnswered}
use Rattle.told_models.specs.Table.{Table}
use Rattle.told_models.specs.declared.walk.Walk.{Walk}
use Rattle.told_models.specs.declared.told_search.ToldSearch.{ToldSearch}
use Rattle.told_models.specs.Walking.{IsWalk}

-- Where a search of a book is, by what was told: on a sound walk, or on none, where the book has no
-- answered call.
abbrev pub IsAt : Table → List Page → Option Walk → Type 0
IsAt table book None = HoldsAnswered book (replicate (length book) 0)
IsAt table book (Some walk) = IsWalk table book walk

-- a search is of a book, and stands on no more than what was told
abbrev pub IsSearch : Table → List Page → ToldSearch → Type 0
IsSearch table book search = IsAt table book search.walk
