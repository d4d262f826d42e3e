-- The one judgement of all that was published.
use Rattle.std.specs.Prelude.{◌≡◌, ℕ, ◌↔◌, List, length, Option, None, Some}
use Rattle.book_base.specs.SeqSpec.{SeqSpec}
use Rattle.book_base.specs.Cut.{IsWithin}
use Rattle.book_base.specs.Book.{Page, answered}
use Rattle.book_base.specs.BookAt.{IsBookAt}
use Rattle.book_base.specs.Order.{HasLegalOrder}
use Rattle.world_core.specs.Shape.{Shape}
use Rattle.world_core.specs.Local.{Local}
use Rattle.world_core.specs.Calls.{AreTogether, book_in}
use Rattle.monitor.specs.declared.witness.Witness.{Witness}
use Rattle.monitor.specs.Worlds.{published_of, published_book, IsWitnessOf}

-- The book at a cut was judged: it has a legal order, and there is no witness; or it has none, and
-- is the witness.
abbrev pub IsJudgedAt : SeqSpec → List Page → List ℕ → Option Witness → Type 0
IsJudgedAt spec book cut None = (part : List Page) × IsBookAt book cut part
    × HasLegalOrder spec part
IsJudgedAt spec book cut (Some w) = (w.cut ≡ cut) × IsBookAt book cut w.book
    × ¬ HasLegalOrder spec w.book

-- There is a count of published records for each caller, and each of these records is in the book
-- of all calls.
abbrev pub PublishedRecordsAreInTheBook : Type 0
PublishedRecordsAreInTheBook =
    (s : Shape) (locals : List Local) → AreTogether s locals
    → (length (published_of locals) ≡ length (book_in locals))
    × IsWithin (published_of locals) (answered (book_in locals))

-- The answer on these callers' calls is right. `None` is right where the book of all published
-- records has a legal order. A witness is right where it is the book of the calls at a cut that
-- counts published records alone, and has no legal order.
abbrev pub IsAnswer : SeqSpec → List Local → Option Witness → Type 0
IsAnswer spec locals None = HasLegalOrder spec (published_book locals)
IsAnswer spec locals (Some w) = IsWitnessOf spec locals w

-- An answer is right, and it is `None` exactly where the book of all published records has a legal
-- order.
pub record IsExactAnswer (spec : SeqSpec) (locals : List Local)
    (answer : Option Witness) : Type 0 where
  pub is : IsAnswer spec locals answer
  pub exact : (answer ≡ None) ↔ HasLegalOrder spec (published_book locals)

-- A right answer is `None` exactly where the book of all published records has a legal order. A
-- judgement of that book is a right answer, and likewise `None` exactly where the book has a legal
-- order.
abbrev pub AnswersAreExact : Type 0
AnswersAreExact =
    (spec : SeqSpec) (s : Shape) (locals : List Local)
    (answer : Option Witness) → AreTogether s locals
    → (IsAnswer spec locals answer → IsExactAnswer spec locals answer)
    × (IsJudgedAt spec (book_in locals) (published_of locals) answer
    → IsExactAnswer spec locals answer)
