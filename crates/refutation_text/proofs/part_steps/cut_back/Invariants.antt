use Rattle.std.proofs.Common.{◌≡◌, ℕ, ◌<◌, ◌≤◌, length, get_or}
use Rattle.refutation_text.proofs.part_steps.cut_back.Given as goal

abbrev pub invariant-loop-caller : goal.invariant-loop-caller
invariant-loop-caller l = (i : ℕ) → length l.left.book ≤ i → i < l.caller → get_or l.counts i 0 ≡ 0
