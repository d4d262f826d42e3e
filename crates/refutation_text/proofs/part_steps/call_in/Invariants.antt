use Rattle.std.proofs.Common.{◌≡◌, ℕ, ◌<◌, get_or}
use Rattle.smaller_book.specs.Part.{numbers_of}
use Rattle.smaller_book.specs.Numbers.{numbers_in}
use Rattle.refutation_text.proofs.part_steps.call_in.Given as goal

abbrev pub invariant-loop-number : goal.invariant-loop-number
invariant-loop-number l = (k : ℕ) → k < l.number
    → get_or (numbers_of (numbers_in l.left.numbers.items) l.named.caller) k 0 ≡ l.named.number → ⊥
