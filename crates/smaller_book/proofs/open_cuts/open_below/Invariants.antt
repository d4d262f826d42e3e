use Rattle.std.proofs.Common.{◌≡◌, ℕ, ◌≤◌, List, length, get_or}
use Rattle.book_base.specs.Cut.{IsWithin}
use Rattle.book_base.specs.BookAt.{book_at}
use Rattle.book_base.specs.Pruning.{HasOneOpen}
use Rattle.smaller_book.proofs.open_cuts.open_below.Given as goal

abbrev pub invariant-loop-round : goal.invariant-loop-round
invariant-loop-round l = (length l.kept ≡ length l.book) × IsWithin l.kept l.cut
    × (get_or l.kept l.caller 0 ≤ l.count)
    × ((other : List ℕ) → IsWithin other l.cut → get_or other l.caller 0 ≤ l.count
    → HasOneOpen (book_at other l.book) → IsWithin other l.kept)
