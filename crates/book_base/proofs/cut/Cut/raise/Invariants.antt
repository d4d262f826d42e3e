use Rattle.std.proofs.Common.{◌≡◌, ℕ, ◌<◌, ◌≤◌, max, length, get_or}
use Rattle.book_base.proofs.cut.Cut.raise.Given as goal

abbrev pub invariant-loop-caller : goal.invariant-loop-caller
invariant-loop-caller l = record {
  wide : length l.self ≡ length l.fn.self;
  raised : (i : ℕ) → i < l.caller
      → get_or l.self i 0 ≡ max (get_or l.fn.self i 0) (get_or l.other i 0);
  kept : (i : ℕ) → l.caller ≤ i → get_or l.self i 0 ≡ get_or l.fn.self i 0;
}
