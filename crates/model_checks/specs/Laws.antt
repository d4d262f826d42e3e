-- Laws of histories and of checks.
use Rattle.std.specs.Prelude.{ℕ, ◌↔◌, List}
use Rattle.book_base.specs.declared.call.Call.{Call}
use Rattle.book_base.specs.Book.{IsCall, Precedes}
use Rattle.model_checks.specs.History.{Event, book_after, MayAllHappen, book_without_calls, EndsBefore}

-- In the book of a history a call precedes another one that has begun exactly where it ends before
-- that one begins.
abbrev pub PrecedenceIsTold : Type 0
PrecedenceIsTold = (callers : ℕ) (events : List Event) (a b : Call)
    → MayAllHappen (book_without_calls callers) events
    → IsCall (book_after (book_without_calls callers) events) b
    → Precedes (book_after (book_without_calls callers) events) a b ↔ EndsBefore events a b
