use Rattle.std.proofs.Common.{◌≡◌, take}
use Rattle.smaller_book.specs.Numbers.{picked}
use Rattle.smaller_book.proofs.composing.numbers_at.Given as goal

abbrev pub invariant-loop-place : goal.invariant-loop-place
invariant-loop-place l = l.found.items ≡ picked l.numbers (take l.place-index l.places)
