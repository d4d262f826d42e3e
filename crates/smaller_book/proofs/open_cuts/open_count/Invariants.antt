use Rattle.std.proofs.Common.{ℕ, ◌≤◌, List, get_or}
use Rattle.book_base.specs.Cut.{IsWithin}
use Rattle.book_base.specs.BookAt.{book_at}
use Rattle.book_base.specs.Pruning.{HasOneOpen}
use Rattle.smaller_book.proofs.open_cuts.open_count.Given as goal

abbrev pub invariant-loop-count : goal.invariant-loop-count
invariant-loop-count l = (l.count ≤ get_or l.cut l.caller 0)
    × ((other : List ℕ) → IsWithin other l.cut → HasOneOpen (book_at other l.book)
    → get_or other l.caller 0 ≤ l.count)

abbrev pub decreases-loop-count : goal.decreases-loop-count
decreases-loop-count l = l.count
