-- A book whose words one caller has peeked.
use Rattle.std.specs.Prelude.{◌≡◌, ℕ, ◌<◌, List, Contains}
use Rattle.book_base.specs.Book.{Page}
use Rattle.book_base.specs.BookAt.{book_at}
use Rattle.world_core.specs.Shape.{Shape}
use Rattle.world_core.specs.Local.{Local, Peeked}
use Rattle.world_core.specs.Calls.{AreTogether, IsGathered, book_in, local_at}

-- A book that a caller gathered at a cut is the book at that cut of all callers' calls. The law
-- doesn't demand that the cut counts published records alone: each peeked record was published.
abbrev pub GatheredIsTheBookAt : Type 0
GatheredIsTheBookAt =
    (s : Shape) (locals : List Local) (i : ℕ) (cut : List ℕ) (book : List Page)
    → AreTogether s locals → i < s.callers
    → IsGathered s.callers (local_at locals i) cut book → book ≡ book_at cut (book_in locals)

-- Each word that the local l has peeked, the local m has peeked too, as where m is the same
-- caller's local at a later moment.
abbrev pub HasPeekedAll : Local → Local → Type 0
HasPeekedAll l m = (p : Peeked) → Contains l.peeked p → Contains m.peeked p

-- A book that a caller has gathered at a cut is still gathered there by a local of it that has
-- peeked more words.
abbrev pub GatheredStays : Type 0
GatheredStays = (n : ℕ) (l m : Local) (cut : List ℕ) (book : List Page) → HasPeekedAll l m
    → IsGathered n l cut book → IsGathered n m cut book
