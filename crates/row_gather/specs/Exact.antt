-- When a book is exact at a cut: in each reachable world in which one caller has a given local, it
-- is the book at that cut, taken from the book of all callers' calls.
use Rattle.std.specs.Prelude.{◌≡◌, ℕ, List}
use Rattle.book_base.specs.Book.{Page}
use Rattle.book_base.specs.BookAt.{book_at}
use Rattle.world_core.specs.Shape.{Meaning, Shape}
use Rattle.world_core.specs.Local.{Local}
use Rattle.world_core.specs.Calls.{AreTogether, book_in, local_at}
use Rattle.row_table.specs.declared.caller.Caller.{Caller}
use Rattle.row_table.specs.declared.rows.Rows.{Rows}
use Rattle.row_table.specs.Callers.{shape_of, who_of, local_with}

-- In each reachable world in which caller `i` has the local `l`, `book` is the book at the cut
-- `cut`, taken from the book of all callers' calls.
abbrev pub IsBookOfAll : Shape → ℕ → Local → List ℕ → List Page → Type 0
IsBookOfAll s i l cut book = (locals : List Local) → AreTogether s locals → local_at locals i ≡ l
    → book ≡ book_at cut (book_in locals)

-- In each reachable world of the rows `r` in which the caller `c` has its local, `book` is the book
-- at the cut `cut`, taken from the book of all callers' calls.
abbrev pub IsTheBookAt : {P : Type 0} → (P → ℕ → ℕ → Meaning) → Rows P → Caller P → List ℕ
    → List Page → Type 0
IsTheBookAt meaning r c cut book =
    IsBookOfAll (shape_of meaning r) (who_of c) (local_with c) cut book
