use Rattle.std.proofs.Common.{ℕ, ◌<◌, get_or}
use Rattle.smaller_book.specs.Settings.{CannotTell}
use Rattle.smaller_book.proofs.unseen_calls.none_of_tells.Given as goal

abbrev pub invariant-loop-place : goal.invariant-loop-place
invariant-loop-place l = (k : ℕ) → k < l.place → CannotTell l.kind l.book l.setting l.item
    (record { caller = l.caller; number = get_or l.numbers k 0 })
