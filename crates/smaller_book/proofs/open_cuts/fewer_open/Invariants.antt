use Rattle.std.proofs.Common.{◌≡◌, ℕ, List, length}
use Rattle.book_base.specs.Cut.{IsWithin}
use Rattle.book_base.specs.BookAt.{book_at}
use Rattle.book_base.specs.Pruning.{HasOneOpen}
use Rattle.smaller_book.proofs.open_cuts.fewer_open.Given as goal

abbrev pub invariant-loop-caller : goal.invariant-loop-caller
invariant-loop-caller l = (length l.fewer ≡ length l.book) × IsWithin l.fewer l.cut
    × ((other : List ℕ) → IsWithin other l.cut → HasOneOpen (book_at other l.book)
    → IsWithin other l.fewer)
