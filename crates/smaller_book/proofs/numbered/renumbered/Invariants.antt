use Rattle.std.proofs.Common.{◌≡◌, ℕ, ◌<◌, ◌≤◌, length, get_or}
use Rattle.smaller_book.specs.Part.{numbers_of, count_below}
use Rattle.smaller_book.specs.Numbers.{numbers_in}
use Rattle.smaller_book.proofs.numbered.renumbered.Given as goal

abbrev pub invariant-loop-caller : goal.invariant-loop-caller
invariant-loop-caller l =
    (length l.counts ≡ length l.view)
    × ((j : ℕ) → j < l.caller
    → get_or l.counts j 0 ≡ count_below (numbers_of (numbers_in l.numbers) j) (get_or l.view j 0))
    × ((j : ℕ) → l.caller ≤ j → get_or l.counts j 0 ≡ get_or l.view j 0)
