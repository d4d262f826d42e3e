-- The book of the locals of one reachable world, and the books at cuts of their published records.
use Rattle.std.specs.Prelude.{◌≡◌, ℕ, List}
use Rattle.book_base.specs.Cut.{IsWithin}
use Rattle.book_base.specs.Book.{Page, answered, IsValid}
use Rattle.book_base.specs.BookAt.{IsBookAt, book_at}
use Rattle.world_core.specs.Shape.{Shape}
use Rattle.world_core.specs.Local.{Local}
use Rattle.world_core.specs.Calls.{AreTogether, IsPublished, book_in}

-- In every reachable world the book of the locals is valid. It has the callers' operations, and the
-- reply and the view of each call whose view is taken.
abbrev pub BooksAreValid : Type 0
BooksAreValid = (s : Shape) (locals : List Local) → AreTogether s locals → IsValid (book_in locals)

-- A cut of published records is within the record counts of the book of the locals.
abbrev pub PublishedCutsAreWithin : Type 0
PublishedCutsAreWithin =
    (s : Shape) (locals : List Local) (cut : List ℕ) → AreTogether s locals → IsPublished locals cut
    → IsWithin cut (answered (book_in locals))

-- The book `part` is valid, is the book at a cut of another book, and has as many records of each
-- caller as the cut counts.
pub record IsValidPart (book : List Page) (cut : List ℕ) (part : List Page) : Type 0 where
  pub valid : IsValid part
  pub at : IsBookAt book cut part
  pub counts : answered part ≡ cut

-- At each cut of published records the book of the locals at this cut is a valid book, whose record
-- counts are the cut, whether or not the cut is comparable with the views.
abbrev pub BooksAtPublishedCuts : Type 0
BooksAtPublishedCuts =
    (s : Shape) (locals : List Local) (cut : List ℕ) → AreTogether s locals → IsPublished locals cut
    → IsValidPart (book_in locals) cut (book_at cut (book_in locals))
